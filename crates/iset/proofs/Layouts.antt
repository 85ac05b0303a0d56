-- The room that the code finds in the words of either layout is that of their eight-word form.
use Rattle.std.proofs.Common.{◌≡◌, ℕ, ◌+◌, ◌*◌, ◌<◌, ◌≤◌, min, Bool, true, false, List, length, get_or, sym, refl, ap, ◌∙◌, arith}
use Rattle.words.specs.Ix.{U}
use Rattle.words.specs.Nodes.{bits_of, capacity, par, HoldsBits}
use Rattle.words.specs.Layouts.{unpack, as_eight, spared, capacity_as, HoldsIn}
use Rattle.words.specs.declared.node.Field.TheVariants.{Parent}
use Rattle.words.proofs.Layouts.{length_unpack, eight_injective, eight_slots, word_unpack, tops_high}
use Rattle.tree.specs.Passes.{Passes}
use Rattle.tree.proofs.Cases.{compare}
use Rattle.image_rule.proofs.Fitting.{passing_links}
use Rattle.iset.specs.Check.{count_number, check_rule}
use Rattle.iset.specs.declared.Map.{Map}
use Rattle.iset.proofs.Checks.{count_zero, two_check}

pub capacity_same : (narrow : Bool) (N : List ℕ) (bytes c : ℕ) → c ≡ capacity_as narrow (length N) bytes → c ≡ capacity (length (as_eight narrow N)) bytes
capacity_same narrow N bytes c e = e ∙ sym (ap (λ (k : ℕ). min k (min (bits_of bytes) 65535)) (eight_slots narrow N))

-- n slots that the eight-word form holds
six_held : (narrow : Bool) (N : List ℕ) (n : ℕ) → n * 8 ≤ length (as_eight narrow N) → n * 6 ≤ length N
unfolding as_eight
six_held true N n h = omega (arith, length_unpack N)
six_held false N n h = omega arith

eight_held : (narrow : Bool) (N : List ℕ) (n : ℕ) → n ≤ 65535 → n * 8 ≤ length (as_eight narrow N) → n * 8 ≤ length N + spared narrow
unfolding as_eight
eight_held true N n few h = omega (arith, length_unpack N)
eight_held false N n few h = omega arith

-- a number of slots within the capacity: what `HoldsIn` asks for
module _ (narrow : Bool) (N : List ℕ) (bytes n : ℕ) (h : n ≤ capacity (length (as_eight narrow N)) bytes) where
  pub held_few : n ≤ 65535
  held_few = omega arith

  pub held_six : n * 6 ≤ length N
  held_six = six_held narrow N n (omega arith)

  pub held_eight : n * 8 ≤ length N + spared narrow
  held_eight = eight_held narrow N n (omega arith) (omega arith)

  pub held_in : HoldsIn narrow N n
  held_in = (held_few, held_six, held_eight)

-- a count that passed its test
pub counted : (m : Map) (narrow : Bool) (N C : List ℕ) → 0 ≡ count_number m (as_eight narrow N) C → HoldsIn narrow N m.count × HoldsBits C m.count
counted m narrow N C e =
    let h : m.count ≤ capacity (length (as_eight narrow N)) (length C) = count_zero m (as_eight narrow N) C (sym e) in
    (held_in narrow N (length C) m.count h, omega (arith, h))

-- and one that the code compared with the capacity
module _ (narrow : Bool) (n len bytes c : ℕ) (e : c ≡ capacity_as narrow len bytes) (h : n ≤ c) where
  pub room_few : n ≤ 65535
  room_few = omega arith

  pub room_six : n * 6 ≤ len
  room_six = go narrow e
    where
      go : (b : Bool) → c ≡ capacity_as b len bytes → n * 6 ≤ len
      go true i = omega arith
      go false i = omega arith

  pub room_eight : n * 8 ≤ len + spared narrow
  room_eight = go narrow e
    where
      go : (b : Bool) → c ≡ capacity_as b len bytes → n * 8 ≤ len + spared b
      go true i = omega arith
      go false i = omega arith

pub room_in : (narrow : Bool) (N : List ℕ) (n bytes c : ℕ) → c ≡ capacity_as narrow (length N) bytes → n ≤ c → HoldsIn narrow N n
room_in narrow N n bytes c e h = held_in narrow N bytes n (omega (arith, capacity_same narrow N bytes c e))

pub unpack_injective : (N M : List ℕ) → unpack N ≡ unpack M → N ≡ M
unfolding as_eight
unpack_injective N M e = eight_injective true N M e

pub capacity_unpacked : (N : List ℕ) (bytes : ℕ) → capacity_as true (length N) bytes ≡ capacity (length (unpack N)) bytes
unfolding as_eight
capacity_unpacked N bytes = capacity_same true N bytes (capacity_as true (length N) bytes) refl

-- A store of six-word nodes whose eight-word form passes has no top bits set below its count.
tops_clear : (N C : List ℕ) (n r : ℕ) → n ≤ 65535 → Passes (unpack N) C n r → (s : ℕ) → s < n → s * 6 + 6 ≤ length N
    → get_or N (s * 6 + 5) 0 < 281474976710656
tops_clear N C n r small h s l room =
    compare 281474976710656 (get_or N (s * 6 + 5) 0)
    (λ q. absurd (omega (arith, low, word_unpack Parent s N room, tops_high (get_or N (s * 6 + 5) 0) q)))
    (λ q. q)
  where
    low : par (unpack N) s ≤ U
    low = (passing_links (unpack N) C n r h (λ k. k ≤ U) (omega arith) (λ a i. omega arith) s l).1

-- "2 where top bits are set", of a slot below the count
pub tops_refused : (m : Map) (N C : List ℕ) (s : ℕ) → m.count ≤ capacity_as true (length N) (length C) → s < m.count
    → 281474976710656 ≤ get_or N (s * 6 + 5) 0 → check_rule m (unpack N) C ≡ 2
tops_refused m N C s room below set =
    two_check m (unpack N) C (rw (← capacity_unpacked N (length C)) room)
    (λ (p : Passes (unpack N) C m.count m.root). omega (arith, tops_clear N C m.count m.root (omega arith) p s below (omega arith)))
