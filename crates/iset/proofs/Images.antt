-- Saving a map and loading it back: what the tests of the two calls leave, and what the calls
-- guarantee.
use Rattle.std.proofs.Common.{◌≡◌, ℕ, ◌≤◌, Bool, true, false, cond, ltb, leb, List, ◌++◌, length, drop, sym, refl, ap, ◌∙◌, zero-add, arith, ltb-false, eq-eqb}
use lib.Seq.{sets, sets-eq}
use Rattle.words.specs.Nodes.{capacity, HoldsBits}
use Rattle.words.specs.Layouts.{as_eight, HoldsIn}
use Rattle.tree.specs.Passes.{Passes}
use Rattle.audit.specs.Survey.{whole_of}
use Rattle.audit.proofs.Decides.{audit_sound, audit_complete}
use Rattle.iter.specs.Drains.{filled}
use Rattle.image_rule.specs.Layout.{image_length_lem, count_in_lem, root_in_lem, laid_out_lem}
use Rattle.image_rule.specs.Stored.{LinksFit, is_good, loaded_words, loaded_colours}
use Rattle.image_rule.specs.Written.{image_of}
use Rattle.image_rule.proofs.Stores.{good_whole}
use Rattle.image_rule.proofs.Reread.{length_image}
use Rattle.iset.specs.Effects.{output}
use Rattle.iset.specs.Check.{count_number}
use Rattle.iset.specs.Image.{open_write_image_number, write_done, open_write_image_call, read_image_number, read_store, read_image_call}
use Rattle.iset.specs.declared.Map.{Map}
use Rattle.image_rule.proofs.Fitting.{links_fit}
use Rattle.iset.proofs.Layouts.{held_in}
use Rattle.iset.proofs.Checks.{both_zero, places_held, count_zero}

-- An image in an output with room: as the code writes it.
pub written_filled : (I out : List ℕ) → length I ≤ length out → sets out 0 I ≡ filled I out
unfolding filled
written_filled I out h =
    sets-eq I out 0 (rw (zero-add (length I)) h) ∙ ap (λ (k : ℕ). I ++ drop k out) (zero-add (length I))

-- Writing. What the tests leave, in the form that `search` takes: a count that an image can have,
-- slices and an output with room.
module _ (m : Map) (narrow : Bool) (N C out : List ℕ) (e : 0 ≡ open_write_image_number m (as_eight narrow N) C (length out)) where
  abbrev W : List ℕ
  W = as_eight narrow N

  passed : (count_number m W C ≡ 0) × (◌≡◌ {A = ℕ} (cond (leb (image_length_lem m.count) (length out)) 0 9) 0)
  unfolding open_write_image_number
  passed = both_zero (count_number m W C) (cond (leb (image_length_lem m.count) (length out)) 0 9) (sym e)

  held : m.count ≤ capacity (length W) (length C)
  held = count_zero m W C passed.0

  pub writable : HoldsIn narrow N m.count × HoldsBits C m.count × (image_length_lem m.count ≤ length out)
  writable = (held_in narrow N (length C) m.count held, omega (arith, held), places_held (image_length_lem m.count) (length out) passed.1)

  -- what the code answers and leaves
  pub image_written : (v : ℕ) (X : List ℕ) → v ≡ image_length_lem m.count → X ≡ sets out 0 (image_of m.count m.root W C)
      → output (write_done v) X ≡ open_write_image_call m W C out
  unfolding open_write_image_call
  image_written v X f g =
      let I : List ℕ = image_of m.count m.root W C in
      let h : length I ≤ length out = omega (arith, length_image W C m.count m.root writable.1, writable.2) in
      let w : X ≡ filled I out = g ∙ written_filled I out h in
      rw (eq-eqb (open_write_image_number m W C (length out)) 0 (sym e)) (λ i. output (write_done (f i)) (w i))

-- An image that is accepted: what was tested.
module _ (W C I : List ℕ) where
  abbrev n : ℕ
  n = count_in_lem I

  abbrev r : ℕ
  r = root_in_lem I

  module _ (few : n ≤ capacity (length W) (length C)) where
    -- the judge of the bytes says yes exactly if what reading leaves passes the check
    pub good_is : is_good I ≡ whole_of (loaded_words I n r W) (loaded_colours I n C) n r
    good_is = good_whole I W C n r (omega arith) (omega arith) (omega arith)

    pub good_sound : is_good I ≡ true → Passes (loaded_words I n r W) (loaded_colours I n C) n r
    good_sound e = audit_sound (loaded_words I n r W) (loaded_colours I n C) n r (omega arith) (sym good_is ∙ e)

    pub good_complete : Passes (loaded_words I n r W) (loaded_colours I n C) n r → is_good I ≡ true
    good_complete P = good_is ∙ audit_complete (loaded_words I n r W) (loaded_colours I n C) n r (omega arith) P

  module _ (e : read_image_number (length W) (length C) I ≡ 0) where
    pub accepts : (laid_out_lem I ≡ true) × (n ≤ capacity (length W) (length C)) × (is_good I ≡ true)
    unfolding read_image_number
    accepts = go (laid_out_lem I) (ltb (capacity (length W) (length C)) n) (is_good I) refl refl refl e
      where
        go : (a b d : Bool) → laid_out_lem I ≡ a → ltb (capacity (length W) (length C)) n ≡ b → is_good I ≡ d
            → ◌≡◌ {A = ℕ} (cond a (cond b 1 (cond d 0 2)) 12) 0
            → (laid_out_lem I ≡ true) × (n ≤ capacity (length W) (length C)) × (is_good I ≡ true)
        go true false true f g h z = (f, ltb-false (capacity (length W) (length C)) n g, h)
        go true false false f g h z = absurd (omega arith)
        go true true d f g h z = absurd (omega arith)
        go false b d f g h z = absurd (omega arith)

    -- "The store after every build .. passes the check", and after every reading
    pub read_sound : Passes (loaded_words I n r W) (loaded_colours I n C) n r
    read_sound = good_sound accepts.1 accepts.2

    pub read_call_lem : (m : Map) → read_image_call m W C I ≡ read_store m W C I
    unfolding read_image_call
    read_call_lem m = rw (eq-eqb (read_image_number (length W) (length C) I) 0 e)

-- the code's tests let the image through
module _ (narrow : Bool) (N C I : List ℕ) (e : 0 ≡ read_image_number (length (as_eight narrow N)) (length C) I) where
  pub loadable : (laid_out_lem I ≡ true) × LinksFit narrow I (count_in_lem I) × HoldsIn narrow N (count_in_lem I) × HoldsBits C (count_in_lem I)
  loadable =
      let h = accepts (as_eight narrow N) C I (sym e) in
      let k = held_in narrow N (length C) (count_in_lem I) h.1 in
      (h.0, links_fit narrow I (count_in_lem I) (root_in_lem I) k.0 h.2, k, omega (arith, h.1))
