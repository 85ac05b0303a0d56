-- `restructure_rm` and the child's exchange: a store whose emptied slot has no child and may be cut
-- off.
use mathlib.Core.Path.{◌≡◌, refl, sym, ap, fun_ext, ◌∙◌}
use mathlib.Core.Logic.{◌≢◌}
use mathlib.Core.Bool.{Bool, true, false, not, false≢true}
use mathlib.Core.List.{List, [], ◌∷◌, ◌++◌, map}
use Prim.Native.Nat.{ℕ, ◌+◌, ◌<◌, ◌≤◌}
use native.Mathlib.Omega.{arith}
use Rattle.words.specs.Ix.{U}
use Rattle.words.specs.Nodes.{kid, par, entry, swap, HoldsBits}
use Rattle.words.proofs.Nodes.{length_swap, word_swap, word_swap_slot, entry_swap_second, entry_swap_first}
use Rattle.words.specs.declared.node.Field.TheVariants.{Child, Parent}
use Rattle.bitvec.specs.Colours.{red}
use Rattle.bitvec.proofs.Bytes.{length_set_bit, set_bit_idle}
use Rattle.tree.specs.Tree.{Tree, slots, without, hit, leaf, node, times}
use Rattle.tree.specs.Zipper.{bin, Frame, plug, occs, frame}
use Rattle.tree.specs.RedBlack.{black_of}
use Rattle.tree.proofs.Slots.{hit_same, occ_bin, occ_plug, times_slots}
use Rattle.tree.proofs.Frames.{Same, shape_live, keep, way_height}
use Rattle.tree_edit.specs.Rounds.{done, Next, again, ending}
use Rattle.tree_rm_rule.specs.Repair.{repair}
use Rattle.tree_rm_rule.specs.Pairs.{moved_to, emptied}
use Rattle.tree_rm_rule.specs.Remove.{child, restructure, handed, above}
use Rattle.tree_edit.specs.Store.{Store, store}
use Rattle.tree_edit.proofs.Links.{by_side}
use Rattle.tree_edit.proofs.Carried.{Kept, kept_entry}
use Rattle.tree_rm_rule.proofs.Rows.{moved_to_other, times_without, map_id, couple, exchange, exchange_slots, around}
use Rattle.tree_edit.proofs.Beside.{beside, occs_parts, by_same}
use Rattle.tree_edit.proofs.Fits.{Fits, fits_black}
use Rattle.tree_rm_rule.proofs.Steps.{emptied_slot_lem, emptied_none, above_slot, above_none, handed_slot, handed_none, restructure_red, restructure_child, restructure_repair}
use Rattle.tree_rm_rule.proofs.Spot.{Spot, parts, at_x, fits_x, no_child, red_y, black_x, near_bare, at_y, child_y, parts_y}
use Rattle.tree_rm_rule.proofs.Weight.{weight_le}
use Rattle.tree_rm_rule.proofs.Loop.{Bare, Lighter, Fixed}
use Rattle.tree_rm_rule.proofs.Repaired.{Finished, repaired}
use Rattle.tree_rm_rule.proofs.RepairInPlace.{repair_in_place}

-- A store of words Y, colours D and root q is ready: its slot v, which is x or the child y of x,
-- hangs from g and may be cut off. X are the words before the repair.
pub record Ready (n x y v g : ℕ) (base X Y D : List ℕ) (q : ℕ) : Type 0 where
  pub live : v < n
  pub fixed : Fixed n v base Y (red D) q
  pub bits : HoldsBits D n
  pub above_is : g ≡ par Y v
  pub entries : map (entry Y) (without v base) ≡ map (entry X) (without x base)
  pub slots_are : without v base ≡ map (moved_to y x) (without x base)
  pub entry_is : entry Y v ≡ entry X x

abbrev pub ReadyIn : ℕ → ℕ → ℕ → List ℕ → List ℕ → Store → Type 0
ReadyIn n x y base X S = Ready n x y (emptied n x y) (above n S.words x y) base X (handed n S.words x y) S.colours S.root

bare : (b : Bool) (x : ℕ) → bin b leaf x leaf ≡ Bare x
bare true x = refl
bare false x = refl

pub same_swap : (W : List ℕ) (i j a : ℕ) → Same W (swap W i j) a
same_swap W i j a = (λ d. word_swap W i j (Child d) a refl, word_swap W i j Parent a refl)

module _ (X C : List ℕ) (n r x : ℕ) (b : Bool) (c : List Frame) (near : Tree) (h : Spot X C n r x b c near) where
  abbrev t : Tree
  t = plug c (bin b near x leaf)

  abbrev base : List ℕ
  base = slots t

  live_x : x < n
  live_x = (at_x X C n r x b c near h).1.live

  fits : Fits (red C) c (black_of (red C x) + 0) (red C x)
  fits = fits_x X C n r x b c near h

  -- no child
  module _ (none : near ≡ leaf) where
    tree_bare : t ≡ plug c (Bare x)
    tree_bare = ap (λ (t : Tree). plug c t) (ap (λ (t : Tree). bin b t x leaf) none ∙ bare b x)

    kept_live : (a : ℕ) → 0 < times a (without x base) → a < n
    kept_live a o =
        let q = times_without x a base (omega (arith, times_slots x t, h.once x))
        (omega (arith, times_slots x t, occ_plug x c (bin b near x leaf), occ_bin x b near x leaf, hit_same x)) in
        shape_live X n U r t a h.shape (omega (arith, times_slots a t))

    abbrev ReadyAt : Store → Type 0
    ReadyAt S = Ready n x U x (par S.words x) base X S.words S.colours S.root

    -- where the words Y have the entries of X
    ready : (Y D : List ℕ) (q : ℕ) → Fixed n x base Y (red D) q → HoldsBits D n → ((a : ℕ) → entry Y a ≡ entry X a) → ReadyAt (store Y D q)
    ready Y D q f o e =
        record {
          live = live_x;
          fixed = f;
          bits = o;
          above_is = refl;
          entries = rw (fun_ext {f = entry Y} {g = entry X} e) refl;
          slots_are = sym (map_id (moved_to U x) (without x base) (λ a i. moved_to_other U x a (omega (arith, kept_live a i, h.small))));
          entry_is = e x;
        }

    -- x is red
    as_red : red C x ≡ true → Fixed n x base X (red C) r
    as_red e =
        record {
          q = c;
          shape = rw tree_bare at h.shape;
          once = λ s. rw tree_bare at (h.once s);
          fits = fits_black (red C) c 0 true (rw e at fits);
          room = h.fit;
          order = ap slots (sym tree_bare);
          hulls = h.hulls;
        }

    -- x is black: 36 rounds suffice
    pub as_black : red C x ≡ false → Lighter n x base 36 X (red C) r x
    as_black e =
        let (way, o) = at_x X C n r x b c near h in
        let kid_U : (d : Bool) → kid X d x ≡ U = by_side (λ d. kid X d x ≡ U) b (rw none at o.left) o.right in (
          record {
            c = c;
            i = [];
            m = 0;
            p = par X x;
            invariant = record {
              live = live_x;
              stand = record {
                small = h.small;
                room = h.fit;
                once = λ s. omega (arith, parts X C n r x b c near h s);
                way = way;
                tree = record { here = refl; live = live_x; up = refl; left = kid_U true; right = kid_U false };
              };
              fits = rw e at fits;
              thin = λ L f d q. q;
              order = ap slots (sym tree_bare);
              hulls = h.hulls;
            };
          },
          omega (arith, weight_le (red C) c, way_height c (bin b near x leaf), h.tall),
        )

    after_repair : (s : Next) → repair n 36 X C r x ≡ s → Finished n x base s → ReadyAt (ending s)
    after_repair (done Y D q) e f =
        ready Y D q f.0 f.1 (λ a. ap (λ (s : Next). entry (ending s).words a) (sym e) ∙ (repair_in_place n 36 X C r x).entries a)
    after_repair (again Y D q i) e f = absurd f

    without_child : ReadyIn n x (child X x) base X (restructure n X C r x (child X x))
    without_child =
        let u : n ≤ U = omega (arith, h.small) in
        rw (no_child X C n r x b c near h none, emptied_none n x U u, above_none n _ x U u, handed_none n _ x U u) (go u (red C x) refl)
      where
        go : n ≤ U → (t : Bool) → red C x ≡ t → ReadyAt (restructure n X C r x U)
        go u true e = rw (restructure_red n X C r x U e) (ready X C r (as_red e) h.bits (λ a. refl))
        go u false e =
            rw (restructure_repair n X C r x U e u)
            (after_repair (repair n 36 X C r x) refl (repaired 36 n x base X C r x h.bits (as_black e).0 (as_black e).1))

  -- a child y: it is cut off, with the entry of x in it
  module _ (l : Tree) (y : ℕ) (l' : Tree) (near_is : near ≡ node l y l') where
    pub live_y : y < n
    live_y = (at_y X C n r x b c near h l y l' near_is).live

    pub reds : (red C x ≡ false) × (red C y ≡ true)
    reds = (black_x X C n r x b c near h l y l' near_is, red_y X C n r x b c near h l y l' near_is)

    tree_y : t ≡ plug c (bin b (Bare y) x leaf)
    tree_y = ap (λ (t : Tree). plug c (bin b t x leaf)) (near_bare X C n r x b c near h l y l' near_is)

    two : (a : ℕ) → occs a c + hit a y + hit a x ≤ 1
    two = parts_y X C n r x b c near h l y l' near_is

    rows : (b : Bool) (B : List ℕ) → slots (bin b (Bare y) x leaf) ++ B ≡ couple (not b) x y B
    rows true B = refl
    rows false B = refl

    kept_swap : (a : ℕ) → a ≢ x → a ≢ y → Kept X (swap X x y) a
    kept_swap a p q g i = word_swap_slot X x y g a p q

    fixed_y : Fixed n y base (swap X x y) (red C) r
    fixed_y =
        record {
          q = frame b x leaf ∷ c;
          shape = keep X (swap X x y) n U r (plug c (bin b (Bare y) x leaf)) (λ a o. same_swap X x y a) (rw tree_y at h.shape);
          once = λ s. rw tree_y at (h.once s);
          fits = record {
            equal_blacks = refl;
            red_black = tt;
            no_red_red = λ e. absurd (false≢true (sym reds.0 ∙ e));
            rest = rw reds.0 (rw reds.0 at fits);
          };
          room = rw length_swap h.fit;
          order = ap slots (sym tree_y);
          hulls = (
            tt,
            by_same X (swap X x y) c (λ a o. kept_swap a
                (λ e. let w : 0 < beside x c = rw e at o in omega (arith, two x, occs_parts x c, hit_same x))
                (λ e. let w : 0 < beside y c = rw e at o in omega (arith, two y, occs_parts y c, hit_same y))) h.hulls,
          );
        }

    with_child_lem : ReadyIn n x (child X x) base X (restructure n X C r x (child X x))
    with_child_lem =
        rw (
          child_y X C n r x b c near h l y l' near_is,
          restructure_child n X C r x y reds.0 live_y reds.1,
          emptied_slot_lem n x y live_y,
          above_slot n X x y live_y,
          handed_slot n X x y live_y,
        )
        (around c (λ A B f.
        let o : base ≡ A ++ couple (not b) x y B = ap slots tree_y ∙ f (bin b (Bare y) x leaf) ∙ ap (λ (l : List ℕ). A ++ l) (rows b B) in
        let one : (a : ℕ) → times a (A ++ couple (not b) x y B) ≤ 1 =
        λ a. let z : times a base ≤ 1 = omega (arith, times_slots a t, h.once a) in rw o at z in
        record {
          live = live_y;
          fixed = rw (set_bit_idle C y true reds.1) fixed_y;
          bits = rw length_set_bit h.bits;
          above_is = sym (word_swap X x y Parent y refl ∙ (at_y X C n r x b c near h l y l' near_is).up);
          entries = rw o (exchange (not b) x y A B one (entry X) (entry (swap X x y))
              (entry_swap_first X x y (omega (arith, live_x, h.fit)))
              (λ a p q. kept_entry X (swap X x y) a (kept_swap a p q)));
          slots_are = rw o (exchange_slots (not b) x y A B one);
          entry_is = entry_swap_second X x y (omega (arith, live_y, h.fit));
        }))

  pub prepared : ReadyIn n x (child X x) base X (restructure n X C r x (child X x))
  prepared = go near refl
    where
      go : (t : Tree) → near ≡ t → ReadyIn n x (child X x) base X (restructure n X C r x (child X x))
      go leaf e = without_child e
      go (node l y l') e = with_child_lem l y l' e
