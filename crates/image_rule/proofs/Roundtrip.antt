-- "reading what was written gives the same map but for its version, node words and colour bits
-- below count, all else in the target staying"
use mathlib.Core.Path.{◌≡◌, refl, sym, ap, ◌∙◌}
use mathlib.Core.Bool.{Bool, true, false}
use mathlib.Core.List.{List}
use Prim.Native.Nat.{ℕ, ◌<◌}
use native.Mathlib.Omega.{arith}
use Rattle.words.specs.Ix.{U}
use Rattle.words.specs.Nodes.{word, start, stop, kid, par, interval, hull, entry, Holds, HoldsBits}
use Rattle.words.specs.declared.interval.Interval.{Interval}
use Rattle.words.specs.declared.node.Entry.{Entry}
use Rattle.words.specs.declared.node.Field.{Field}
use Rattle.words.specs.declared.node.Field.TheVariants.{Start, End, Value, HullStart, HullEnd, Child, Parent}
use Rattle.bitvec.specs.Bits.{bit_at}
use Rattle.tree.specs.Tree.{Shape}
use Rattle.tree.specs.Hulls.{Hulls}
use Rattle.tree.specs.Passes.{Passes}
use Rattle.tree.proofs.Frames.{keep}
use Rattle.tree.proofs.Checked.{slot_live, slot_once, tree_low}
use Rattle.audit.specs.declared.Node.{Node}
use Rattle.audit.specs.Survey.{node_at_lem, as_read, is_whole, whole_of}
use Rattle.audit.proofs.Decides.{audit_sound, audit_complete}
use Rattle.audit.proofs.Unread.{on_node, pass_same}
use Rattle.image_rule.specs.Judge.{worked}
use Rattle.image_rule.specs.Stored.{unpacked, loaded_words, loaded_colours}
use Rattle.image_rule.specs.Written.{image_of}
use Rattle.image_rule.proofs.Worked.{word_worked, worked_hulls}
use Rattle.image_rule.proofs.Stores.{length_unpacked, unpacked_holds, painted_bits}
use Rattle.image_rule.proofs.Reread.{Fit, entry_reread, child_reread, parent_reread, red_reread}
use Rattle.image_rule.proofs.Unique.{hulls_unique}

-- a map that passes, its image I, read into any words X and colours D with room
module _ (W C : List ℕ) (n r : ℕ) (P : Passes W C n r) (fit : Fit W n r) (bits : HoldsBits C n) (X D : List ℕ) (room : Holds X n) (more : HoldsBits D n) where
  abbrev I : List ℕ
  I = image_of n r W C

  abbrev Y : List ℕ
  Y = unpacked I n n X

  abbrev Z : List ℕ
  Z = worked n 33 Y r

  entries_back : (s : ℕ) → s < n → entry Y s ≡ entry W s
  entries_back s q = (unpacked_holds I n n X s room q).entry_is ∙ entry_reread W C n r bits fit s q

  kids_back : (b : Bool) (s : ℕ) → s < n → kid Y b s ≡ kid W b s
  kids_back b s q = (unpacked_holds I n n X s room q).kid_is b ∙ child_reread W C n r bits fit b s q

  pars_back : (s : ℕ) → s < n → par Y s ≡ par W s
  pars_back s q = (unpacked_holds I n n X s room q).par_is ∙ parent_reread W C n r bits fit s q

  shape_back : Shape Y n U r P.tree
  shape_back = keep W Y n U r P.tree (λ s o. let q : s < n = slot_live W C n r P s o in (λ b. kids_back b s q, pars_back s q)) P.shape

  hulls_back : Hulls Z P.tree
  hulls_back =
      (worked_hulls n fit.few 33 Y U r P.tree (rw (length_unpacked I n n X) room) (omega (arith, tree_low W C n r P fit.few))
      (slot_once W C n r P) shape_back).0

  interval_back : (s : ℕ) → s < n → interval W s ≡ interval Z s
  interval_back s q =
      let a : start W s ≡ start Z s = sym (ap (λ (e : Entry). e.start) (entries_back s q)) ∙ sym (word_worked n 33 Y r Start s refl) in
      let b : stop W s ≡ stop Z s = sym (ap (λ (e : Entry). e.end) (entries_back s q)) ∙ sym (word_worked n 33 Y r End s refl) in
      λ t. record { start = a t; end = b t }

  hull_back : (s : ℕ) → s < n → hull Z s ≡ hull W s
  hull_back s q =
      sym (hulls_unique W Z P.tree (λ a o. interval_back a (slot_live W C n r P a o)) P.hulls hulls_back s (omega (arith, P.once s q)))

  -- every word of a slot below the count, those of its hull too
  pub words_back : (g : Field) (s : ℕ) → s < n → word (loaded_words I n r X) g s ≡ word W g s
  unfolding loaded_words
  words_back Start s q = word_worked n 33 Y r Start s refl ∙ ap (λ (e : Entry). e.start) (entries_back s q)
  words_back End s q = word_worked n 33 Y r End s refl ∙ ap (λ (e : Entry). e.end) (entries_back s q)
  words_back Value s q = word_worked n 33 Y r Value s refl ∙ ap (λ (e : Entry). e.value) (entries_back s q)
  words_back HullStart s q = ap (λ (h : Interval). h.start) (hull_back s q)
  words_back HullEnd s q = ap (λ (h : Interval). h.end) (hull_back s q)
  words_back (Child b) s q = word_worked n 33 Y r (Child b) s refl ∙ kids_back b s q
  words_back Parent s q = word_worked n 33 Y r Parent s refl ∙ pars_back s q

  -- every colour bit below it
  pub bits_back : (s : ℕ) → s < n → bit_at (loaded_colours I n D) s ≡ bit_at C s
  unfolding loaded_colours
  bits_back s q = painted_bits I n n D s more q ∙ red_reread W C n r bits s q

  -- so reading is accepted, and what it leaves passes
  nodes_back : (k : ℕ) → k < n → node_at_lem W C k ≡ node_at_lem (loaded_words I n r X) (loaded_colours I n D) k
  nodes_back k q = λ t. record {
    interval = record { start = sym (words_back Start k q) t; end = sym (words_back End k q) t };
    hull = record { start = sym (words_back HullStart k q) t; end = sym (words_back HullEnd k q) t };
    left = sym (words_back (Child true) k q) t;
    right = sym (words_back (Child false) k q) t;
    parent = sym (words_back Parent k q) t;
    red = sym (bits_back k q) t;
  }

  pub read_accepted : whole_of (loaded_words I n r X) (loaded_colours I n D) n r ≡ true
  unfolding whole_of
  read_accepted =
      ap (is_whole n)
      (sym (pass_same as_read (node_at_lem W C) (node_at_lem (loaded_words I n r X) (loaded_colours I n D)) n
      (λ k q p d A. ap (λ (x : Node). on_node as_read p d A x) (nodes_back k q)) 33 U (record { start = 0; end = 0 }) r))
      ∙ audit_complete W C n r fit.few P

  pub read_passes : Passes (loaded_words I n r X) (loaded_colours I n D) n r
  read_passes = audit_sound (loaded_words I n r X) (loaded_colours I n D) n r fit.few read_accepted
