-- Where nothing that a slot holds changes, the view stays; and order, hulls and colours go by the
-- view alone.
use mathlib.Core.Path.{◌≡◌, refl, sym, ap, ◌∙◌}
use mathlib.Core.Bool.{Bool}
use mathlib.Core.List.{List, ◌∷◌, map, map-append}
use Prim.Native.Nat.{ℕ, ◌<◌, min, max}
use native.Mathlib.Omega.{arith}
use Rattle.words.specs.Nodes.{start, stop, lo, hi, value, interval, hull, entry}
use Rattle.words.specs.declared.interval.Interval.{Interval}
use Rattle.tree.specs.Tree.{Tree, leaf, node, slots, occ}
use Rattle.tree.specs.Hulls.{gather, Hulls}
use Rattle.tree.specs.RedBlack.{root_red, blacks, RedBlack}
use Rattle.tree.specs.View.{Datum, datum, view}
use Rattle.tree.proofs.Slots.{hit_same}

-- from the words W and colours K to X and L
module _ (W : List ℕ) (K : ℕ → Bool) (X : List ℕ) (L : ℕ → Bool) where
  -- the frame rule, an equation
  pub view_keep : (t : Tree) → ((s : ℕ) → 0 < occ s t → datum X L s ≡ datum W K s) → view X L t ≡ view W K t
  view_keep leaf f = refl
  view_keep (node l s r) f =
      rw (view_keep l (λ a o. f a (omega arith)), f s (omega (arith, hit_same s)), view_keep r (λ a o. f a (omega arith)))

  -- two trees with one view, node by node
  pub view_induct : (P : Tree → Tree → Type 0) → P leaf leaf
      → ((l : Tree) (s : ℕ) (r l' : Tree) (s' : ℕ) (r' : Tree) → datum X L s ≡ datum W K s'
      → view X L l ≡ view W K l' → view X L r ≡ view W K r' → P l l' → P r r' → P (node l s r) (node l' s' r'))
      → (u t : Tree) → view X L u ≡ view W K t → P u t
  view_induct P z f leaf leaf e = z
  view_induct P z f leaf (node l' s' r') e = let i : ◌≡◌ {A = ℕ} 0 1 = cc in absurd (omega arith)
  view_induct P z f (node l s r) leaf e = let i : ◌≡◌ {A = ℕ} 0 1 = cc in absurd (omega arith)
  view_induct P z f (node l s r) (node l' s' r') e =
      let x : view X L l ≡ view W K l' = cc in
      let y : view X L r ≡ view W K r' = cc in
      f l s r l' s' r' (cc) x y (view_induct P z f l l' x) (view_induct P z f r r' y)

  -- what two slots with one datum agree in
  module _ (a b : ℕ) (e : datum X L a ≡ datum W K b) where
    pub datum_interval : interval X a ≡ interval W b
    unfolding datum
    datum_interval = ap (λ (d : Datum). d.interval) e

    pub datum_hull : hull X a ≡ hull W b
    unfolding datum
    datum_hull = ap (λ (d : Datum). d.hull) e

    pub datum_value : value X a ≡ value W b
    unfolding datum
    datum_value = ap (λ (d : Datum). d.value) e

    pub datum_red : L a ≡ K b
    unfolding datum
    datum_red = ap (λ (d : Datum). d.red?) e

    pub datum_start : start X a ≡ start W b
    datum_start = ap (λ (i : Interval). i.start) datum_interval

    pub datum_stop : stop X a ≡ stop W b
    datum_stop = ap (λ (i : Interval). i.end) datum_interval

    pub datum_lo : lo X a ≡ lo W b
    datum_lo = ap (λ (i : Interval). i.start) datum_hull

    pub datum_hi : hi X a ≡ hi W b
    datum_hi = ap (λ (i : Interval). i.end) datum_hull

    pub datum_entry : entry X a ≡ entry W b
    datum_entry = rw (datum_start, datum_stop, datum_value)

  -- whatever the slots of the two trees agree in, in tree order
  pub map_view : {A : Type 0} (f g : ℕ → A) → ((a b : ℕ) → datum X L a ≡ datum W K b → f a ≡ g b)
      → (u t : Tree) → view X L u ≡ view W K t → map f (slots u) ≡ map g (slots t)
  map_view f g h =
      view_induct (λ u t. map f (slots u) ≡ map g (slots t)) refl (λ l s r l' s' r' e x y p q.
      map-append f (slots l) (s ∷ slots r) ∙ rw (p, q, h s s' e) (sym (map-append g (slots l') (s' ∷ slots r'))))

  gather_view : (op : ℕ → ℕ → ℕ) (f g : ℕ → ℕ) → ((a b : ℕ) → datum X L a ≡ datum W K b → f a ≡ g b)
      → (u t : Tree) → view X L u ≡ view W K t → (c d : ℕ) → c ≡ d → gather op f u c ≡ gather op g t d
  gather_view op f g h =
      view_induct (λ u t. (c d : ℕ) → c ≡ d → gather op f u c ≡ gather op g t d) (λ c d i. i) (λ l s r l' s' r' e x y p q c d i.
      p (op (f s) (gather op f r c)) (op (g s') (gather op g r' d)) (rw (h s s' e, q c d i)))

  pub blacks_view : (u t : Tree) → view X L u ≡ view W K t → blacks L u ≡ blacks K t
  blacks_view =
      view_induct (λ u t. blacks L u ≡ blacks K t) refl (λ l s r l' s' r' e x y p q. rw (p, datum_red s s' e))

  pub root_red_view : (u t : Tree) → view X L u ≡ view W K t → root_red L u ≡ root_red K t
  root_red_view = view_induct (λ u t. root_red L u ≡ root_red K t) refl (λ l s r l' s' r' e x y p q. datum_red s s' e)

  pub entries_view : (u t : Tree) → view X L u ≡ view W K t → map (entry X) (slots u) ≡ map (entry W) (slots t)
  entries_view = map_view (entry X) (entry W) datum_entry

  -- what one view carries over
  pub hulls_view : (u t : Tree) → view X L u ≡ view W K t → Hulls W t → Hulls X u
  hulls_view =
      view_induct (λ u t. Hulls W t → Hulls X u) (λ h. tt) (λ l s r l' s' r' e x y p q h.
      let v : view X L (node l s r) ≡ view W K (node l' s' r') = rw (x, e, y) in
      record {
        low = datum_lo s s' e ∙ h.low ∙ sym (gather_view min (start X) (start W) datum_start (node l s r) (node l' s' r') v _ _ (datum_start s s' e));
        high = datum_hi s s' e ∙ h.high ∙ sym (gather_view max (stop X) (stop W) datum_stop (node l s r) (node l' s' r') v _ _ (datum_stop s s' e));
        left = p h.left;
        right = q h.right;
      })

  pub red_black_view : (u t : Tree) → view X L u ≡ view W K t → RedBlack K t → RedBlack L u
  red_black_view =
      view_induct (λ u t. RedBlack K t → RedBlack L u) (λ h. tt) (λ l s r l' s' r' e x y p q h.
      record {
        no_red_red = λ i. let c = h.no_red_red (sym (datum_red s s' e) ∙ i) in (root_red_view l l' x ∙ c.0, root_red_view r r' y ∙ c.1);
        equal_blacks = blacks_view l l' x ∙ h.equal_blacks ∙ sym (blacks_view r r' y);
        left = p h.left;
        right = q h.right;
      })
