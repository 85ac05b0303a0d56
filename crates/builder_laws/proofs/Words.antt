-- The words of a span, read at its slots: the shape of its tree, its entries and its hulls.
use mathlib.Core.Path.{◌≡◌, sym, ap, ◌∙◌}
use mathlib.Core.Bool.{true, false}
use mathlib.Core.List.{List, ◌∷◌, ◌++◌, append_assoc}
use Prim.Native.Nat.{ℕ, suc, ◌+◌, ◌-◌, ◌*◌, ◌^◌, ◌<◌, ◌≤◌, min, max}
use native.Mathlib.Omega.{arith}
use lib.ListN.{length, get_or, length-append}
use lib.Seq.{get_or-append-add}
use Rattle.words.specs.Nodes.{place, word, start, stop, kid, par, hull, entry}
use Rattle.words.specs.declared.interval.Interval.{Interval}
use Rattle.words.specs.declared.node.Entry.{Entry}
use Rattle.words.specs.declared.node.Field.{Field}
use Rattle.words.specs.declared.node.Field.TheVariants.{Start, End, Value, HullStart, HullEnd, Child, Parent}
use Rattle.tree.specs.Tree.{Tree, leaf, node, Shape}
use Rattle.tree.specs.Hulls.{gather, least, most, Hulls}
use Rattle.tree.proofs.Cases.{compare}
use Rattle.tree.proofs.Hulls.{least_min, most_max, least_swap, most_swap, least_le, le_most}
use Rattle.builder.specs.Input.{start_of, end_of, interval_of_lem, entry_of}
use Rattle.builder.specs.Build.{center, root_of_lem, span_hull, root_hull, node_words_lem, root_words, span_words}
use Rattle.builder.proofs.Spans.{node_words_law, root_none, root_some, few_left, hull_none, hull_some, words_none, words_some}
use Rattle.builder_laws.proofs.Trees.{tree_of, spans}

pub length_words : (S : List ℕ) (f a b p : ℕ) → b - a < 2 ^ f → length (span_words S f a b p) ≡ (b - a) * 8
length_words S f a b p h =
    spans (λ f a b t. (p : ℕ) → length (span_words S f a b p) ≡ (b - a) * 8) (λ f a b h p. rw (words_none S f a b p h) (omega arith)) some f a b h p
  where
    some : (f a b : ℕ) (l r : Tree) → b - a < 2 ^ suc f → a < b
        → ((p : ℕ) → length (span_words S f a (center a b) p) ≡ (center a b - a) * 8)
        → ((p : ℕ) → length (span_words S f (center a b + 1) b p) ≡ (b - (center a b + 1)) * 8)
        → (p : ℕ) → length (span_words S (suc f) a b p) ≡ (b - a) * 8
    some f a b l r h e x y p =
        rw (words_some S f a b p e, node_words_law) (simp length-append (omega (arith, x (center a b), y (center a b))))

-- what is read of a node, which stands where its slot's words begin
module _ (W pre post : List ℕ) (s : ℕ) (e : Entry) (h : Interval) (left right up : ℕ)
    (split : W ≡ pre ++ (node_words_lem e h left right up ++ post)) (at : length pre ≡ s * 8) where
  read : (f : Field) → word W f s ≡ get_or (e.start ∷ e.end ∷ e.value ∷ h.start ∷ h.end ∷ left ∷ right ∷ up ∷ post) (place f) 0
  unfolding word
  read f =
      rw (split, node_words_law e h left right up, ← at)
      (get_or-append-add pre (e.start ∷ e.end ∷ e.value ∷ h.start ∷ h.end ∷ left ∷ right ∷ up ∷ post) (place f) 0)

-- the words of a span in the list W, from slot a on
pub record Laid (W S : List ℕ) (f a b p : ℕ) : Type 0 where
  pub pre : List ℕ
  pub post : List ℕ
  pub whole : W ≡ pre ++ (span_words S f a b p ++ post)
  pub at : length pre ≡ a * 8

-- what is read at the root s of a span, which has f levels below it
record Root (W S : List ℕ) (f a b p s : ℕ) : Type 0 where
  entry_is : entry W s ≡ entry_of S s
  hull_is : hull W s ≡ root_hull S f a b
  left_is : kid W true s ≡ root_of_lem a (center a b)
  right_is : kid W false s ≡ root_of_lem (center a b + 1) b
  par_is : par W s ≡ p

module _ (W S : List ℕ) (f a b p : ℕ) (h : b - a < 2 ^ suc f) (e : a < b) (k : Laid W S (suc f) a b p) where
  L : List ℕ
  L = span_words S f a (center a b) (center a b)

  R : List ℕ
  R = span_words S f (center a b + 1) b (center a b)

  split : W ≡ k.pre ++ (L ++ (root_words S f a b p ++ (R ++ k.post)))
  unfolding L R
  split = k.whole ∙ rw (words_some S f a b p e) (simp append_assoc)

  at_root : length (k.pre ++ L) ≡ center a b * 8
  unfolding L
  at_root = simp length-append (omega (arith, k.at, length_words S f a (center a b) (center a b) (few_left a b f h e)))

  laid_root : Root W S f a b p (center a b)
  laid_root =
      let at : (f : Field) → _ =
      read W (k.pre ++ L) (R ++ k.post) (center a b) (entry_of S (center a b)) (root_hull S f a b) (root_of_lem a (center a b)) (root_of_lem (center a b + 1) b) p
      (split ∙ sym (append_assoc k.pre L (root_words S f a b p ++ (R ++ k.post)))) at_root in
      record {
        entry_is = rw (at Start, at End, at Value);
        hull_is = rw (at HullStart, at HullEnd);
        left_is = at (Child true);
        right_is = at (Child false);
        par_is = at Parent;
      }

  laid_left : Laid W S f a (center a b) (center a b)
  unfolding L R
  laid_left = record { pre = k.pre; post = root_words S f a b p ++ (R ++ k.post); whole = split; at = k.at }

  laid_right : Laid W S f (center a b + 1) b (center a b)
  unfolding L R
  laid_right =
      record {
        pre = (k.pre ++ L) ++ root_words S f a b p;
        post = k.post;
        whole = split ∙ simp append_assoc;
        at = rw (length-append (k.pre ++ L) (root_words S f a b p), node_words_law) (omega (arith, at_root));
      }

-- what is gathered over the left half, then the right, then d, is what is gathered over the node
module _ (op : ℕ → ℕ → ℕ) (turn : (a b : ℕ) → op a b ≡ op b a) (g : ℕ → ℕ)
    (spread : (t : Tree) (a d : ℕ) → gather op g t (op a d) ≡ op (gather op g t a) d)
    (swap : (t : Tree) (a b : ℕ) → op (gather op g t a) b ≡ op (gather op g t b) a) where
  join : (l : Tree) (s : ℕ) (r : Tree) (d : ℕ) → op d (gather op g r (gather op g l (g s))) ≡ gather op g (node l s r) d
  join l s r d =
      turn d (gather op g r (gather op g l (g s))) ∙ swap r (gather op g l (g s)) d ∙ turn (gather op g r d) (gather op g l (g s))
      ∙ sym (spread l (g s) (gather op g r d))

-- what the words of a span below p hold, in a store of N entries
pub record Good (W S : List ℕ) (N f a b p : ℕ) (t : Tree) : Type 0 where
  pub shape : Shape W N p (root_of_lem a b) t
  pub hulls : Hulls W t
  pub entries : (s : ℕ) → a ≤ s → s < b → entry W s ≡ entry_of S s
  pub low : (d : Interval) → (span_hull S f a b d).start ≡ least (start W) t d.start
  pub high : (d : Interval) → (span_hull S f a b d).end ≡ most (stop W) t d.end

module _ (W S : List ℕ) (N : ℕ) where
  good_none : (f a b p : ℕ) → b ≤ a → Good W S N f a b p leaf
  good_none f a b p h =
      record {
        shape = root_none a b h;
        hulls = tt;
        entries = λ s x y. absurd (omega arith);
        low = λ d. ap (λ (i : Interval). i.start) (hull_none S f a b d h);
        high = λ d. ap (λ (i : Interval). i.end) (hull_none S f a b d h);
      }

  module _ (f a b p : ℕ) (l r : Tree) (some : a < b) (o : Root W S f a b p (center a b))
      (x : Good W S N f a (center a b) (center a b) l) (y : Good W S N f (center a b + 1) b (center a b) r) where
    low_root : (root_hull S f a b).start ≡ least (start W) r (least (start W) l (start W (center a b)))
    low_root =
        let q : start_of S (center a b) ≡ start W (center a b) = sym (ap (λ (e : Entry). e.start) o.entry_is) in
        y.low (span_hull S f a (center a b) (interval_of_lem S (center a b))) ∙ rw (x.low (interval_of_lem S (center a b)), q)

    high_root : (root_hull S f a b).end ≡ most (stop W) r (most (stop W) l (stop W (center a b)))
    high_root =
        let q : end_of S (center a b) ≡ stop W (center a b) = sym (ap (λ (e : Entry). e.end) o.entry_is) in
        y.high (span_hull S f a (center a b) (interval_of_lem S (center a b))) ∙ rw (x.high (interval_of_lem S (center a b)), q)

    lows : (d : ℕ) → min d (root_hull S f a b).start ≡ least (start W) (node l (center a b) r) d
    lows d = rw low_root (join min (λ a b. omega arith) (start W) (least_min (start W)) (least_swap (start W)) l (center a b) r d)

    highs : (d : ℕ) → max d (root_hull S f a b).end ≡ most (stop W) (node l (center a b) r) d
    highs d = rw high_root (join max (λ a b. omega arith) (stop W) (most_max (stop W)) (most_swap (stop W)) l (center a b) r d)

    -- the own interval is in the hull
    low_own : min (start W (center a b)) (root_hull S f a b).start ≡ (root_hull S f a b).start
    low_own =
        let s : ℕ = start W (center a b) in
        omega (arith, low_root, least_le (start W) r (least (start W) l s), least_le (start W) l s)

    high_own : max (stop W (center a b)) (root_hull S f a b).end ≡ (root_hull S f a b).end
    high_own =
        let s : ℕ = stop W (center a b) in
        omega (arith, high_root, le_most (stop W) r (most (stop W) l s), le_most (stop W) l s)

    good_some : b ≤ N → Good W S N (suc f) a b p (node l (center a b) r)
    good_some fit =
        record {
          shape =
              record {
                here = root_some a b some;
                live = omega arith;
                up = o.par_is;
                left = rw o.left_is x.shape;
                right = rw o.right_is y.shape;
              };
          hulls =
              record {
                low = ap (λ (i : Interval). i.start) o.hull_is ∙ sym low_own ∙ lows (start W (center a b));
                high = ap (λ (i : Interval). i.end) o.hull_is ∙ sym high_own ∙ highs (stop W (center a b));
                left = x.hulls;
                right = y.hulls;
              };
          entries = λ s u v.
              compare (center a b) s
              (λ h. compare s (center a b)
              (λ k. let e : s ≡ center a b = omega arith in rw e o.entry_is)
              (λ k. y.entries s (omega arith) v))
              (λ h. x.entries s u h);
          low = λ d. ap (λ (i : Interval). i.start) (hull_some S f a b d some) ∙ lows d.start;
          high = λ d. ap (λ (i : Interval). i.end) (hull_some S f a b d some) ∙ highs d.end;
        }

  pub good_span : (f a b p : ℕ) → b - a < 2 ^ f → b ≤ N → Laid W S f a b p → Good W S N f a b p (tree_of f a b)
  good_span f a b p h fit k =
      spans (λ f a b t. (p : ℕ) → b ≤ N → Laid W S f a b p → Good W S N f a b p t)
      (λ f a b h p fit k. good_none f a b p h)
      (λ f a b l r h e x y p fit k.
      good_some f a b p l r e (laid_root W S f a b p h e k)
      (x (center a b) (omega arith) (laid_left W S f a b p h e k))
      (y (center a b) fit (laid_right W S f a b p h e k)) fit)
      f a b h p fit k
