-- Exact lookup on a store that passes the check: demand 2's equal entries, and the nodes entered on
-- the way.
use mathlib.Core.Path.{◌≡◌, refl, sym, ap, ◌∙◌}
use mathlib.Core.Logic.{◌↔◌}
use mathlib.Core.Bool.{Bool, cond}
use mathlib.Core.List.{List, [], ◌++◌, append-nil}
use Prim.Native.Nat.{ℕ, ◌<◌, ◌≤◌}
use native.Mathlib.Omega.{arith}
use lib.ListN.{length, take}
use Rattle.words.specs.Ix.{U}
use Rattle.words.specs.Nodes.{par}
use Rattle.words.specs.Lists.{filter}
use Rattle.words.specs.declared.interval.Interval.{Interval}
use Rattle.words.proofs.Lists.{filter_append}
use Rattle.tree.specs.Tree.{Tree, leaf, node, slots, size, height, Shape, times}
use Rattle.tree.specs.Zipper.{plug}
use Rattle.tree.specs.Passes.{Passes}
use Rattle.tree.proofs.Checked.{tree_size, tree_low}
use Rattle.iter.specs.Cursors.{ended, fresh}
use Rattle.iter.specs.Walk.{Rules, counts, deeper, fuel, seek, step, after}
use Rattle.iter.specs.Drains.{drain, calls}
use Rattle.iter.specs.Forms.{form_of}
use Rattle.iter.specs.Exact.{equals, should_go_exact, exact, find_from}
use Rattle.iter.specs.declared.Cursor.{Cursor}
use Rattle.iter.specs.declared.Form.TheVariants as form
use Rattle.iter.specs.Lists.{first_or}
use Rattle.iter_laws.specs.Place.{Held, earlier, later}
use Rattle.iter_laws.specs.Entered.{exact_rule, entered, entered_from}
use Rattle.iter_laws.specs.Highest.{Highest}
use Rattle.iter_laws.proofs.Trees.{each_once_lem}
use Rattle.iter_laws.proofs.Walks.{Walk, links, follows, focus}
use Rattle.iter_laws.proofs.Places.{Stands, height_plug, stands_low, fresh_low, stands_room, fresh_room, step_held, held_stands, fresh_held}
use Rattle.iter_laws.proofs.Fresh.{fresh_step, fresh_run, fresh_nodes, fresh_hits, fresh_ends, fresh_enough}
use Rattle.iter_laws.proofs.Later.{slots_plug, size_plug, fairs_plug, held_step, held_run, held_nodes, held_hits, held_ends, held_enough}
use Rattle.iter_laws.proofs.Forms.{fresh_form, ended_form, held_form_lem, bad_form}
use Rattle.iter_laws.proofs.Exacts.{by_link, fair, find_is}

module _ (W C : List ℕ) (n r : ℕ) (key : Interval) (small : n ≤ 65535) (P : Passes W C n r) where
  abbrev Q : Rules
  Q = exact W n key

  abbrev E : Bool → ℕ → ℕ → Bool
  E = exact_rule W key

  -- the slots of the equal entries, in tree order
  abbrev pub all : List ℕ
  all = filter (equals W key) (slots P.tree)

  -- where exact lookup starts
  abbrev pub begin : ℕ
  begin = find_from W n key r

  -- the search finds the highest equal node, or there is no equal entry and it answers U
  pub exact_start : {X : Type 0} → (begin ≡ U → all ≡ [] → X) → (Highest W key P.tree begin → X) → X
  exact_start = find_is W n key small P.tree P.tree [] 32 U r P.shape (tree_low W C n r P small) refl P.rising refl refl

  -- the subtree at the highest equal node k, and the walk through it
  module _ (k : ℕ) (H : Highest W key P.tree k) where
    abbrev pub below : Tree
    below = node H.left k H.right

    pub all_below : filter (equals W key) (slots below) ≡ all
    all_below =
        rw (
          ← H.there,
          slots_plug H.way below,
          filter_append (equals W key) (earlier H.way) (slots below ++ later H.way),
          H.none_before,
          filter_append (equals W key) (slots below) (later H.way),
          H.none_after,
          append-nil,
        )

    pub shape_below : Shape W n (par W k) k below
    shape_below =
        focus W n U r H.way below (rw H.there P.shape) (λ q j h e.
        record { here = refl; live = h.live; up = refl; left = h.left; right = h.right })

    pub walk_below : Walk W n Q E (par W k) k below
    walk_below =
        let z : size (plug H.way below) ≤ n = rw H.there (omega (arith, tree_size W C n r P)) in
        let y : height (plug H.way below) ≤ 32 = rw H.there (tree_low W C n r P small) in
        record {
          small = small;
          linked = links W n Q E (by_link W n key small);
          shape = shape_below;
          few = omega (arith, size_plug H.way below);
          low = omega (arith, height_plug H.way below);
          fair = fairs_plug Q H.way below (rw H.there (fair W n key small U r P.tree P.shape P.hulls P.rising));
          rule = follows W n Q E (by_link W n key small) small;
        }

  pub walk_none : (k : ℕ) → k ≡ U → Walk W n Q E U k leaf
  walk_none k e =
      record {
        small = small;
        linked = links W n Q E (by_link W n key small);
        shape = e;
        few = omega arith;
        low = omega arith;
        fair = tt;
        rule = follows W n Q E (by_link W n key small) small;
      }

  -- the tree that the walk goes through has all equal entries
  pub start_tree : {X : Type 0} → ((p : ℕ) (t : Tree) → Walk W n Q E p begin t → filter (equals W key) (slots t) ≡ all → X) → X
  start_tree x =
      exact_start (λ e i. x U leaf (walk_none begin e) (sym i)) (λ H. x (par W begin) (below begin H) (walk_below begin H) (all_below begin H))

  -- from fresh to the end: exactly the entries equal to the query, in tree order
  pub exact_run : (limit : ℕ) → length all < limit
      → ((drain W n Q limit (fresh begin)).slots ≡ all) × ((drain W n Q limit (fresh begin)).next ≡ ended)
  exact_run limit h = start_tree (λ p t w e. rw (fresh_run W n Q E p begin t w limit (rw e h), e) (refl, refl))

  -- each slot once if its entry is equal, and else not at all
  pub exact_each : (s : ℕ) → s < n → times s all ≡ cond (equals W key s) 1 0
  exact_each = each_once_lem W C n r P (equals W key)

  -- a step answers the first of them, U where there is none
  pub exact_step : (step W n Q (fresh begin)).slot ≡ first_or U all
  exact_step = start_tree (λ p t w e. fresh_step W n Q E p begin t w ∙ rw e)

  -- a drain with any limit hands out the first of them
  pub exact_first : (limit : ℕ) → (drain W n Q limit (fresh begin)).slots ≡ take limit all
  exact_first limit = start_tree (λ p t w e. fresh_hits W n Q E p begin t w limit ∙ rw e)

  -- the fuel suffices
  pub exact_ends : (f : ℕ) → fuel n ≤ f → n ≤ (after W n Q f (fresh begin)).slot
  exact_ends f h = start_tree (λ p t w e. fresh_ends W n Q E p begin t w f h)

  pub exact_enough : (f : ℕ) → fuel n ≤ f → seek W n Q f (counts n (fresh begin)) (fresh begin) ≡ step W n Q (fresh begin)
  exact_enough f h = start_tree (λ p t w e. fresh_enough W n Q E p begin t w f h)

  -- no push is refused
  pub exact_low : (m : ℕ) → (after W n Q m (fresh begin)).levels ≤ 32
  exact_low m = start_tree (λ p t w e. fresh_low W n Q E p begin t w m)

  pub exact_room : (m : ℕ) → (after W n Q m (fresh begin)).slot < n → (b : Bool)
      → deeper Q b (after W n Q m (fresh begin)) ≡ should_go_exact W n key b (after W n Q m (fresh begin)).slot
  exact_room m q b = start_tree (λ p t w e. fresh_room W n Q E p begin t w m q b)

  -- From here levels count from the highest equal node k.
  module _ (k : ℕ) (H : Highest W key P.tree k) where
    -- the nodes entered are those of the entered rule, from k on; finding k adds none
    pub exact_nodes : (limit : ℕ) → length all < limit → calls W n Q limit (fresh k) ≡ entered E (below k H)
    exact_nodes limit h = fresh_nodes W n Q E (par W k) k (below k H) (walk_below k H) limit (rw (all_below k H) h)

    pub exact_count : (limit : ℕ) → length all < limit → (drain W n Q limit (fresh k)).entered ≡ length (entered E (below k H))
    exact_count limit h = rw (fresh_run W n Q E (par W k) k (below k H) (walk_below k H) limit (rw (all_below k H) h))

    -- the cursor after a hit is that hit's held form
    pub exact_next : (step W n Q (fresh k)).slot < n
        → Held (below k H) (step W n Q (fresh k)).next × ((step W n Q (fresh k)).next.slot ≡ (step W n Q (fresh k)).slot)
    exact_next = fresh_held W n Q E (par W k) k (below k H) (walk_below k H)

    -- the form test
    module _ (c : Cursor) where
      pub exact_fresh_form : (form_of W n k c ≡ form.Fresh) ↔ (c ≡ fresh k)
      exact_fresh_form = fresh_form W n small (par W k) k (below k H) (shape_below k H) (walk_below k H).low c

      pub exact_ended_form : (form_of W n k c ≡ form.Ended) ↔ (c ≡ ended)
      exact_ended_form = ended_form W n small (par W k) k (below k H) (shape_below k H) (walk_below k H).low c

      pub exact_held_form : (form_of W n k c ≡ form.Held) ↔ Held (below k H) c
      exact_held_form = held_form_lem W n small (par W k) k (below k H) (shape_below k H) (walk_below k H).low c

      pub exact_bad_form : form_of W n k c ≡ form.Bad → (c ≡ fresh k → ⊥) × (c ≡ ended → ⊥) × (Held (below k H) c → ⊥)
      exact_bad_form = bad_form W n small (par W k) k (below k H) (shape_below k H) (walk_below k H).low c

    -- a held cursor yields the equal entries after its slot
    module _ (c : Cursor) (h : Held (below k H) c) where
      stands : Stands (below k H) c
      stands = held_stands W n Q E (par W k) k (below k H) (walk_below k H) c h

      abbrev pub after_it : List ℕ
      after_it = filter (equals W key) (slots h.right ++ later h.way)

      pub exact_held : (limit : ℕ) → length after_it < limit
          → drain W n Q limit c ≡ record { slots = after_it; next = ended; entered = length (entered_from E h.slot h.right h.way) }
      exact_held = held_run W n Q E (par W k) k (below k H) (walk_below k H) c h

      pub exact_held_nodes : (limit : ℕ) → length after_it < limit → calls W n Q limit c ≡ entered_from E h.slot h.right h.way
      exact_held_nodes = held_nodes W n Q E (par W k) k (below k H) (walk_below k H) c h

      pub exact_held_step : (step W n Q c).slot ≡ first_or U after_it
      exact_held_step = held_step W n Q E (par W k) k (below k H) (walk_below k H) c h

      pub exact_held_first : (limit : ℕ) → (drain W n Q limit c).slots ≡ take limit after_it
      exact_held_first = held_hits W n Q E (par W k) k (below k H) (walk_below k H) c h

      pub exact_held_ends : (f : ℕ) → fuel n ≤ f → n ≤ (after W n Q f c).slot
      exact_held_ends = held_ends W n Q E (par W k) k (below k H) (walk_below k H) c h

      pub exact_held_enough : (f : ℕ) → fuel n ≤ f → seek W n Q f (counts n c) c ≡ step W n Q c
      exact_held_enough = held_enough W n Q E (par W k) k (below k H) (walk_below k H) c h

      pub exact_held_low : (m : ℕ) → (after W n Q m c).levels ≤ 32
      exact_held_low = stands_low W n Q E (par W k) k (below k H) (walk_below k H) c stands

      pub exact_held_room : (m : ℕ) → (after W n Q m c).slot < n → (b : Bool)
          → deeper Q b (after W n Q m c) ≡ should_go_exact W n key b (after W n Q m c).slot
      exact_held_room = stands_room W n Q E (par W k) k (below k H) (walk_below k H) c stands

      pub exact_held_next : (step W n Q c).slot < n
          → Held (below k H) (step W n Q c).next × ((step W n Q c).next.slot ≡ (step W n Q c).slot)
      exact_held_next = step_held W n Q E (par W k) k (below k H) (walk_below k H) c stands

  -- where no entry is equal, no cursor is held
  pub exact_none_held : (c : Cursor) → begin ≡ U → form_of W n begin c ≡ form.Held → ⊥
  exact_none_held c e q =
      let h : Held leaf c = (held_form_lem W n small U begin leaf e (omega arith) c).0 q in
      omega (arith, ap size h.there, size_plug h.way (node h.left h.slot h.right))
