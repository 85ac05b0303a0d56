-- The builder's theorem: what is built passes.
use mathlib.Core.Path.{◌≡◌, refl, ap, ◌∙◌}
use mathlib.Core.Bool.{false, cond}
use mathlib.Core.List.{List, [], map}
use Prim.Native.Nat.{ℕ, zero, suc, ◌+◌, ◌-◌, ◌*◌, ◌/◌, ◌^◌, ◌<◌, ◌≤◌}
use native.Mathlib.Omega.{arith}
use native.Mathlib.Nat.{pow-suc}
use lib.Pow.{pow_mono}
use lib.ListN.{length, drop, length-append, length-drop}
use lib.Seq.{drop_at}
use lib.Dec.{eqb}
use borrow.Author.Tests.{ne_eqb, lt-leb}
use Rattle.words.specs.Ix.{U}
use Rattle.words.specs.Nodes.{interval, entry, Holds, HoldsBits}
use Rattle.words.specs.declared.node.Entry.{Entry}
use Rattle.bitvec.specs.Colours.{red}
use Rattle.tree.specs.Tree.{Tree, slots}
use Rattle.tree.specs.Order.{RisingAt}
use Rattle.tree.specs.RedBlack.{root_red}
use Rattle.tree.proofs.Cases.{compare}
use Rattle.builder.specs.Input.{interval_of_lem, entry_of}
use Rattle.builder.specs.Build.{span_words, painted, log, levels, build_words, build_colours, build_root}
use Rattle.builder.proofs.Levels.{log_is, levels_few}
use Rattle.builder.proofs.Spans.{words_none, painted_none}
use Rattle.builder_laws.specs.Input.{Input}
use Rattle.builder_laws.specs.Built.{range, up_to, Greatest, Built}
use Rattle.builder_laws.proofs.Trees.{tree_of, tree_none, slots_span, once_span}
use Rattle.builder_laws.proofs.Words.{length_words, Good, good_span}
use Rattle.builder_laws.proofs.Colours.{length_painted, painted_out, SpanColours, colours_span}

module _ (n : ℕ) (few : n ≤ 65535) where
  bounds : (2 ^ log 16 (n + 1) ≤ n + 1) × (n + 1 < 2 ^ suc (log 16 (n + 1)))
  bounds = log_is 16 (n + 1) (omega arith) (omega arith)

  -- the levels are the greatest D, and one more
  pub greatest : Greatest (log 16 (n + 1)) n
  greatest =
      record {
        fits = bounds.0;
        most = λ k h. compare k (log 16 (n + 1)) (λ e. e)
            (λ e. let z : 2 ^ suc (log 16 (n + 1)) ≤ 2 ^ k = pow_mono {i = suc (log 16 (n + 1))} {j = k} e in absurd (omega (arith, bounds.1)));
      }

  levels_are : (D : ℕ) → Greatest D n → levels n + 1 ≡ D + 2
  unfolding levels
  levels_are D g = omega (arith, g.most (log 16 (n + 1)) bounds.0, greatest.most D g.fits)

  levels_full : 2 ^ levels n ≤ 2 * (n + 1)
  unfolding levels
  levels_full = let p : 2 ^ suc (log 16 (n + 1)) ≡ 2 ^ log 16 (n + 1) * 2 = pow-suc 2 (log 16 (n + 1)) in omega (arith, bounds.0)

  -- only a tree of no nodes has one level
  levels_one : levels n ≤ 1 → n ≡ 0
  unfolding levels
  levels_one h = let z : 2 ^ levels n ≤ 2 ^ 1 = pow_mono {i = levels n} {j = 1} h in omega (arith, bounds.1)

pub root_is : (n : ℕ) → build_root n ≡ cond (eqb n 0) U (n / 2)
unfolding build_root
root_is zero = refl
root_is (suc n) = rw (lt-leb (suc n) 0 (omega arith), ne_eqb (suc n) 0 (omega arith)) (omega arith)

-- "n = 0: count 0, root U, nothing written."
pub nothing_written : (S W C : List ℕ) → (build_words S 0 W ≡ W) × (build_colours 0 C ≡ C)
unfolding build_words build_colours
nothing_written S W C = (rw (words_none S (levels 0) 0 0 U (omega arith)) refl, painted_none (levels 0) C 0 0 (omega arith))

-- the entries of the slots in order never fall
rising : (W S : List ℕ) (n : ℕ) → Input S n → ((s : ℕ) → s < n → interval W s ≡ interval_of_lem S s)
    → (m a : ℕ) → a + m ≤ n → RisingAt W (range a m)
rising W S n i h zero a q = tt
rising W S n i h (suc zero) a q = (tt, tt)
rising W S n i h (suc (suc m)) a q =
    (rw (h a (omega arith), h (suc a) (omega arith)) (i.rising a (omega arith)), rising W S n i h (suc m) (suc a) (omega arith))

map_range : (f g : ℕ → Entry) (m a n : ℕ) → ((s : ℕ) → s < n → f s ≡ g s) → a + m ≤ n → map f (range a m) ≡ map g (range a m)
map_range f g zero a n h q = refl
map_range f g (suc m) a n h q = rw (h a (omega arith), map_range f g m (suc a) n h (omega arith))

pub build_passes : (S W C : List ℕ) (n : ℕ) → n ≤ 65535 → Holds W n → HoldsBits C n → Input S n
    → Built S W C n (build_words S n W) (build_colours n C) (build_root n)
unfolding build_words build_colours build_root
build_passes S W C n few room bits input =
    record {
      passes =
          record {
            tree = t;
            shape = good.shape;
            once = λ s h. once_span f n s (levels_few n few) h;
            proper = λ s h.
                omega (arith, input.proper s h, ap (λ (e : Entry). e.start) (holds s h), ap (λ (e : Entry). e.end) (holds s h));
            rising = rw order (rising X S n input intervals n 0 (omega arith));
            hulls = good.hulls;
            top = top;
            red_black = colours_right.red_black;
          };
      root = root_is n;
      order = order;
      listed = rw order (map_range (entry X) (entry_of S) n 0 n holds (omega arith));
      entries = holds;
      depths = λ D g. colours_right.depths D 1 (levels_are n few D g);
      words_kept = drop_at (span_words S f 0 n U) (drop (n * 8) W) (n * 8) len;
      words_length = simp (length-append, length-drop) (omega (arith, len));
      bits_kept = λ s h. painted_out f C 0 n s (λ x y. omega arith);
      bits_length = length_painted f C 0 n;
    }
  where
    f : ℕ
    f = levels n

    t : Tree
    t = tree_of f 0 n

    X : List ℕ
    X = build_words S n W

    small : n - 0 < 2 ^ f
    small = omega (arith, levels_few n few)

    order : slots t ≡ up_to n
    order = let z : n - 0 ≡ n = omega arith in slots_span f 0 n small ∙ rw z

    len : length (span_words S f 0 n U) ≡ n * 8
    len = omega (arith, length_words S f 0 n U small)

    good : Good X S n f 0 n U t
    good = good_span X S n f 0 n U small (omega arith) (record { pre = []; post = drop (n * 8) W; whole = refl; at = refl })

    holds : (s : ℕ) → s < n → entry X s ≡ entry_of S s
    holds s h = good.entries s (omega arith) h

    intervals : (s : ℕ) → s < n → interval X s ≡ interval_of_lem S s
    intervals s h = ap (λ (e : Entry). record { start = e.start; end = e.end }) (holds s h)

    colours_right : SpanColours (red (painted f C 0 n)) f t
    colours_right = colours_span (red (painted f C 0 n)) f 0 n C small (omega (arith, levels_full n few)) bits (λ s x y. refl)

    top : root_red (red (painted f C 0 n)) t ≡ false
    top =
        compare f 1
        (λ h. rw (tree_none f 0 n (omega (arith, levels_one n few h))) refl)
        (λ h. colours_right.top (λ e. omega arith))
