-- Hulls that are right are the only right ones: they are the same in two stores whose entries are.
use mathlib.Core.Path.{◌≡◌, refl, sym, ap, ◌∙◌}
use mathlib.Core.List.{List}
use Prim.Native.Nat.{ℕ, ◌<◌, min, max}
use native.Mathlib.Omega.{arith}
use Rattle.words.specs.Nodes.{start, stop, interval, hull, lo, hi}
use Rattle.words.specs.declared.interval.Interval.{Interval}
use Rattle.tree.specs.Tree.{Tree, leaf, node, occ}
use Rattle.tree.specs.Hulls.{gather, Hulls}
use Rattle.tree.proofs.Slots.{hit_same, occ_cases}

gather_by : (op : ℕ → ℕ → ℕ) (f g : ℕ → ℕ) (t : Tree) (d : ℕ) → ((s : ℕ) → 0 < occ s t → f s ≡ g s) → gather op f t d ≡ gather op g t d
gather_by op f g leaf d e = refl
gather_by op f g (node l s r) d e =
    rw (
      gather_by op f g r d (λ a o. e a (omega arith)),
      e s (omega (arith, hit_same s)),
      gather_by op f g l (op (g s) (gather op g r d)) (λ a o. e a (omega arith)),
    ) refl

module _ (W Z : List ℕ) where
  pub hulls_unique : (t : Tree) → ((s : ℕ) → 0 < occ s t → interval W s ≡ interval Z s) → Hulls W t → Hulls Z t
      → (s : ℕ) → 0 < occ s t → hull W s ≡ hull Z s
  hulls_unique leaf e h k s o = absurd (omega arith)
  hulls_unique (node l a r) e h k s o =
      occ_cases s a l r o
      (hulls_unique l (λ b p. e b (omega arith)) h.left k.left s)
      (λ q. rw q here)
      (hulls_unique r (λ b p. e b (omega arith)) h.right k.right s)
    where
      starts : (b : ℕ) → 0 < occ b (node l a r) → start W b ≡ start Z b
      starts b p = ap (λ (i : Interval). i.start) (e b p)

      stops : (b : ℕ) → 0 < occ b (node l a r) → stop W b ≡ stop Z b
      stops b p = ap (λ (i : Interval). i.end) (e b p)

      own : 0 < occ a (node l a r)
      own = omega (arith, hit_same a)

      here : hull W a ≡ hull Z a
      here =
          let x : lo W a ≡ lo Z a =
          h.low ∙ gather_by min (start W) (start Z) (node l a r) (start W a) starts
          ∙ ap (λ (d : ℕ). gather min (start Z) (node l a r) d) (starts a own) ∙ sym k.low in
          let y : hi W a ≡ hi Z a =
          h.high ∙ gather_by max (stop W) (stop Z) (node l a r) (stop W a) stops
          ∙ ap (λ (d : ℕ). gather max (stop Z) (node l a r) d) (stops a own) ∙ sym k.high in
          λ t. record { start = x t; end = y t }
