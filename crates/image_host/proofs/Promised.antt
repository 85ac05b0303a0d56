-- Said of the code: what the promises of `image_count` and `image_value` allow, beside what those
-- of `Map::read_image` and `Map::drain` allow.
use Rattle.std.specs.Prelude.{Ok}
use mathlib.Core.Path.{◌≡◌, refl, sym, ap, ◌∙◌}
use mathlib.Core.List.{List}
use Prim.Native.Nat.{ℕ, ◌<◌, ◌≤◌}
use native.Mathlib.Omega.{arith}
use lib.ListN.{length, get_or}
use contract.Lifetimes.{Lfts}
use borrow.Fn.Kinds as K
use denote.Triple.Clauses.{AtExit}
use Rattle.words.specs.Nodes.{value}
use Rattle.iter.specs.Cursors.{fresh}
use Rattle.iter.specs.Drains.{limit_of_lem}
use Rattle.iter.specs.declared.drain.Drained.{Drained}
use Rattle.iter.specs.declared.rules.Query.TheVariants.{Overlap}
use Rattle.image_rule.specs.Layout.{count_in_lem}
use Rattle.iset.specs.Effects.{Effect, Output}
use Rattle.iset.specs.Build.{BuildAnswer}
use Rattle.iset.specs.Image.{read_image_call}
use Rattle.iset.specs.Lookup.{drain_number, DrainAnswer, drain_call}
use Rattle.iset.specs.declared.Map.{Map}
use Rattle.iset.proofs.Map.read_image.Reads as read-reads
use Rattle.iset.proofs.Map.read_image.Kinds as read-kinds
use Rattle.iset.proofs.Map.drain.Reads as drain-reads
use Rattle.iset.proofs.Map.drain.Kinds as drain-kinds
use Rattle.iset.proofs.Lookups.{drain_accepts}
use Rattle.iset.proofs.Refusals.{number_is}
use Rattle.iset.proofs.Saves.{request_6}
use Rattle.image_host.specs.Requested.{only, drained_after, AsDrained}
use Rattle.image_host.proofs.Hosts.{request_7}
use Rattle.image_host.proofs.image_count.Reads as count-reads
use Rattle.image_host.proofs.image_count.Kinds as count-kinds
use Rattle.image_host.proofs.image_value.Reads as value-reads
use Rattle.image_host.proofs.image_value.Kinds as value-kinds

-- `Map::read_image` read an image and returned the map M; then `Map::drain` in what it left, from
-- the fresh cursor and for the address a, returned d. There was room for all.
module _ (κr : Lfts 3) (b : K.Dens κr read-kinds.ps) (M : Map) (t : AtExit (K.ended_of 3 read-kinds.ps read-kinds.r) κr)
    (reads : read-reads.Post κr b (Ok M) t)
    (κd : Lfts 3) (c : K.Dens κd drain-kinds.ps) (d : Drained) (u : AtExit (K.ended_of 3 drain-kinds.ps drain-kinds.r) κd)
    (drains : drain-reads.Post κd c (Ok d) u)
    (a : ℕ) (map_is : c.0 ≡ M) (words_are : c.1.0.now ≡ t.1.0.now) (colours-are : c.1.1.0.now ≡ t.1.1.0.now)
    (query-is : c.1.1.1.0 ≡ Overlap (only a)) (cursor_is : c.1.1.1.1.0 ≡ fresh M.root)
    (enough : M.count ≤ limit_of_lem c.1.1.1.1.1.0 (length c.1.1.1.1.1.1.0.now)) where
  abbrev I : List ℕ
  I = b.1.1.1.0.now

  abbrev limit : ℕ
  limit = c.1.1.1.1.1.0

  abbrev out : List ℕ
  out = c.1.1.1.1.1.1.0.now

  abbrev left : Effect BuildAnswer
  left = read_image_call b.0 b.1.0.now b.1.1.0.now I

  not_refused : left.answer.no ≡ 0
  not_refused = sym (ap (λ (e : Effect BuildAnswer). e.answer.no) reads)

  -- the drain's promise, of the map that was read
  abbrev told : Output DrainAnswer
  told = record { answer = record { no = 0; hits = d.hits; entered = d.entered; next = d.next }; output = u.1.1.1.1.1.1.0.now }

  drain_is : told ≡ drained_after left a limit out
  drain_is =
      drains
      ∙ rw (map_is, words_are, colours-are, query-is, cursor_is)
      (ap (λ (e : Effect BuildAnswer). drained_after e a limit out) reads)

  count_of : M.count ≡ count_in_lem I
  count_of =
      ap (λ (e : Effect BuildAnswer). e.answer.map.count) reads
      ∙ ap (λ (m : Map). m.count) ((request_6 b.0 b.1.0.now b.1.1.0.now).reads I not_refused)

  fits : limit_of_lem limit (length out) ≤ length out
  unfolding drain_call
  fits =
      let no : Output DrainAnswer → ℕ = λ e. e.answer.no in
      let z = drain_number c.0 c.1.0.now c.1.1.0.now c.1.1.1.0 c.1.1.1.1.0 limit (length out) in
      (drain_accepts c.0 c.1.0.now c.1.1.0.now c.1.1.1.0 c.1.1.1.1.0 limit (length out)
      (sym (number_is no z _ _ refl refl) ∙ sym (ap no drains))).1

  answers : AsDrained I a left.words told
  answers =
      rw drain_is
      ((request_7 I a).as_drained b.0 b.1.0.now b.1.1.0.now not_refused limit out (omega (arith, enough, count_of)) fits)

  -- the number that `image_count` returns is the drain's
  pub count_promised : (κs : Lfts 1) (e : K.Dens κs count-kinds.ps) (r : (K.res_t count-kinds.r κs).Denot) (s : AtExit (K.ended_of 1 count-kinds.ps count-kinds.r) κs)
      → count-reads.Post κs e r s → e.0.now ≡ I → e.1.0 ≡ a → r ≡ d.hits
  count_promised κs e r s p i j = p ∙ rw (i, j) answers.count

  -- the value that `image_value` returns is that of the k-th slot that the drain wrote
  pub value_promised : (κs : Lfts 1) (e : K.Dens κs value-kinds.ps) (r : (K.res_t value-kinds.r κs).Denot) (s : AtExit (K.ended_of 1 value-kinds.ps value-kinds.r) κs)
      → value-reads.Post κs e r s → e.0.now ≡ I → e.1.0 ≡ a → e.1.1.0 < d.hits
      → r ≡ value t.1.0.now (get_or u.1.1.1.1.1.1.0.now e.1.1.0 0)
  value_promised κs e r s p i j h =
      p
      ∙ rw (i, j)
      (answers.values e.1.1.0 (rw answers.count h)
      ∙ ap (λ (l : List ℕ). value l (get_or u.1.1.1.1.1.1.0.now e.1.1.0 0)) (sym (ap (λ (x : Effect BuildAnswer). x.words) reads)))
