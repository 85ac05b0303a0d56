-- The code of the search against its rule, in the form that `search` takes.
use mathlib.Core.Path.{◌≡◌, refl, sym, ap, ◌∙◌}
use mathlib.Core.Bool.{Bool, true, false, ◌&&◌}
use mathlib.Core.List.{List}
use Prim.Native.Nat.{ℕ, ◌-◌, ◌<◌, ◌≤◌}
use native.Mathlib.Omega.{arith}
use lib.Dec.{ltb}
use borrow.Author.Tests.{lt-ltb, le-ltb}
use Rattle.words.specs.Ix.{U, link_of}
use Rattle.words.specs.Intervals.{passed, admits}
use Rattle.words.specs.Nodes.{start, stop, hi, kid}
use Rattle.std.specs.declared.ops.Bound.{Bound}
use Rattle.words.specs.declared.interval.Span.{Span}
use Rattle.std.specs.declared.option.Option.{Option}
use Rattle.std.specs.declared.option.Option.TheVariants.{Some, None}
use Rattle.words.proofs.Laws.{linked, unlinked}
use Rattle.first_rule.specs.First.{past, past_way, first_past_lem, first_met_lem, first_in}
use Rattle.first_rule.proofs.Ways.{end_spent, end_gone, end_here, end_on}

module _ (W : List ℕ) (n k : ℕ) (b : Bound ℕ) (l : Option ℕ) (e : l ≡ link_of n k) where
  pub past_there : (r : Bool) (a h : ℕ) → l ≡ Some a → h ≡ hi W a → r ≡ passed b h → r ≡ past (passed b) W n k
  unfolding past
  past_there r a h q i p = linked r n k a l (λ s. passed b (hi W s)) false e q (rw (← i) p)

  pub past_gone : l ≡ None → false ≡ past (passed b) W n k
  unfolding past
  past_gone q = unlinked false n k l (λ s. passed b (hi W s)) false e q refl

-- the loop: `all` is the answer, which the way from the link k, with f nodes left to visit, has too
module _ (W : List ℕ) (n : ℕ) (b : Bound ℕ) (all f k : ℕ) (e : all ≡ first_past_lem (passed b) W n f k) where
  pub past_spent : f ≤ 0 → U ≡ all
  unfolding first_past_lem
  past_spent h = sym (e ∙ end_spent (past_way (passed b) W n) W n f k h)

  pub past_out : n ≤ k → U ≡ all
  unfolding first_past_lem
  past_out h = sym (e ∙ end_gone (past_way (passed b) W n) W n f k h)

  module _ (d : ℕ) (t : Bool) (z : 0 < f) (h : k < n) (c : d ≡ kid W true k) (p : t ≡ past (passed b) W n d) where
    left_is : t ≡ past (passed b) W n (kid W true k)
    left_is = p ∙ ap (past (passed b) W n) c

    pub past_left : (g : ℕ) → t ≡ true → g ≡ f - 1 → all ≡ first_past_lem (passed b) W n g d
    unfolding first_past_lem
    past_left g q v =
        e ∙ end_on (past_way (passed b) W n) W n f k g (omega arith) h d (c ∙ ap (λ (s : Bool). kid W s k) (sym q ∙ left_is)) (rw (← left_is, q) refl)

    module _ (x : ℕ) (own : Bool) (q : t ≡ false) (i : x ≡ stop W k) (o : own ≡ passed b x) where
      pub past_here : own ≡ true → k ≡ all
      unfolding first_past_lem
      past_here y = sym (e ∙ end_here (past_way (passed b) W n) W n f k (f - 1) (omega arith) h (rw (← left_is, q, ← i, ← o) y))

      pub past_right : (w g : ℕ) → own ≡ false → w ≡ kid W false k → g ≡ f - 1 → all ≡ first_past_lem (passed b) W n g w
      unfolding first_past_lem
      past_right w g y u v =
          e ∙ end_on (past_way (passed b) W n) W n f k g (omega arith) h w (u ∙ ap (λ (s : Bool). kid W s k) (sym q ∙ left_is))
          (rw (← left_is, q, ← i, ← o) y)

module _ (W : List ℕ) (n s : ℕ) (b : Bound ℕ) where
  pub admitted_there : (r : Bool) (x : ℕ) → s < n → x ≡ start W s → r ≡ admits b x → r ≡ (ltb s n && admits b (start W s))
  admitted_there r x h e p = rw (lt-ltb s n h, ← e) p

  pub admitted_none : n ≤ s → false ≡ (ltb s n && admits b (start W s))
  admitted_none h = rw (le-ltb s n h) refl

module _ (W : List ℕ) (n r s : ℕ) (q : Span) (t : Bool) (e : s ≡ first_past_lem (passed q.lo) W n 32 r) (p : t ≡ (ltb s n && admits q.hi (start W s))) where
  pub met_yes : t ≡ true → s ≡ first_in q W n r
  unfolding first_in first_met_lem
  met_yes z = rw (← e, ← p, z)

  pub met_no : t ≡ false → U ≡ first_in q W n r
  unfolding first_in first_met_lem
  met_no z = rw (← e, ← p, z)
