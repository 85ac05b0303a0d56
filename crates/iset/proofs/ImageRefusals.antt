-- Demand 1 of writing and of reading an image: each is refused exactly as document 02, item 6 says,
-- both ways, with the first refusal in its order; and a refused call leaves all that was lent.
use Rattle.std.proofs.Common.{◌≡◌, ℕ, ◌<◌, ◌≤◌, true, cond, ltb, leb, List, length, sym, refl, ap, ◌∙◌, true≢false, arith, ltb-false, ltb-true, leb-false, leb-true, Result, Err}
use contract.Lifetimes.{Lfts}
use borrow.Fn.Kinds as K
use denote.Triple.Clauses.{AtExit}
use Rattle.words.specs.Ix.{U}
use Rattle.words.specs.Nodes.{capacity}
use Rattle.words.specs.Refusals.{refusal_number}
use Rattle.words.specs.declared.refusal.Refusal.{Refusal}
use Rattle.image_rule.specs.Layout.{image_length_lem, count_in_lem, laid_out_lem}
use Rattle.image_rule.specs.Stored.{is_good}
use Rattle.iset.specs.Effects.{Effect, effect, Output, output}
use Rattle.iset.specs.Check.{check_rule}
use Rattle.iset.specs.Build.{BuildAnswer, build_answer}
use Rattle.iset.specs.Image.{write_image_number, WriteAnswer, write_answer, write_image_call, read_image_number, read_image_call}
use Rattle.iset.specs.Refusals.{Rows, accept, refuse, Exactly, check_rows, NotLoaded, write_image_rows, read_image_rows}
use Rattle.iset.specs.declared.Map.{Map}
use Rattle.iset.proofs.Map.write_image.Reads as write-image-reads
use Rattle.iset.proofs.Map.write_image.Kinds as write-image-kinds
use Rattle.iset.proofs.Map.read_image.Reads as read-image-reads
use Rattle.iset.proofs.Map.read_image.Kinds as read-image-kinds
use Rattle.iset.proofs.Orders.{write_image_order}
use Rattle.iset.proofs.Refusals.{first_then, passed_row, failed_row, number_is, kept, check_refusals, refused_number, store_left}
use Rattle.iset.proofs.Images.{good_sound, good_complete}

module _ (m : Map) (W C : List ℕ) where
  -- Writing.
  module _ (out : List ℕ) where
    pub write_image_no : (write_image_call m W C out).answer.no ≡ write_image_number m W C (length out)
    unfolding write_image_call
    write_image_no = number_is (λ (a : Output WriteAnswer). a.answer.no) (write_image_number m W C (length out)) _ _ refl refl

    pub write_image_refusals : Exactly (write_image_rows m W C (length out)) (write_image_call m W C out).answer.no
    write_image_refusals =
        let n : ℕ = image_length_lem m.count in
        rw (write_image_no, write_image_order m W C (length out))
        (first_then (check_rows m W C) (refuse 9 (length out < n) accept) (check_rule m W C) (cond (leb n (length out)) 0 9) (omega arith)
        (check_refusals m W C)
        (λ e. passed_row 9 (length out < n) accept 0 (leb n (length out)) (omega arith)
        (λ t p. omega (arith, leb-true n (length out) t)) (leb-false n (length out)) (λ t. refl)))

    -- "no byte written", and length 0
    pub write_image_leaves : ((write_image_call m W C out).answer.no ≡ 0 → ⊥)
        → write_image_call m W C out ≡ output (record { no = (write_image_call m W C out).answer.no; length = 0 }) out
    unfolding write_image_call
    write_image_leaves d = rw write_image_no (kept (write_image_number m W C (length out)) _ _ (λ e. d (write_image_no ∙ e)))

  -- Reading.
  module _ (I : List ℕ) where
    abbrev room : ℕ
    room = capacity (length W) (length C)

    pub read_image_no : (read_image_call m W C I).answer.no ≡ read_image_number (length W) (length C) I
    unfolding read_image_call
    read_image_no = number_is (λ (a : Effect BuildAnswer). a.answer.no) (read_image_number (length W) (length C) I) _ _ refl refl

    -- the tables from each row on
    abbrev from_2 : Rows
    from_2 = refuse 2 (NotLoaded W C I) accept

    abbrev from_1 : Rows
    from_1 = refuse 1 (room < count_in_lem I) from_2

    store_row : count_in_lem I ≤ room → Exactly from_2 (cond (is_good I) 0 2)
    store_row h =
        passed_row 2 (NotLoaded W C I) accept 0 (is_good I) (omega arith)
        (λ t p. p (good_sound W C I h t)) (λ t s. true≢false (sym (good_complete W C I h s) ∙ t)) (λ t. refl)

    room_row : Exactly from_1 (cond (ltb room (count_in_lem I)) 1 (cond (is_good I) 0 2))
    room_row =
        failed_row 1 (room < count_in_lem I) from_2 (cond (is_good I) 0 2) (ltb room (count_in_lem I)) (omega arith)
        (λ u. ltb-true room (count_in_lem I) u) (λ u p. omega (arith, ltb-false room (count_in_lem I) u)) (λ u. store_row (ltb-false room (count_in_lem I) u))

    pub read_image_refusals : Exactly (read_image_rows W C I) (read_image_call m W C I).answer.no
    unfolding read_image_number
    read_image_refusals =
        rw read_image_no
        (passed_row 12 (laid_out_lem I ≡ true → ⊥) from_1 (cond (ltb room (count_in_lem I)) 1 (cond (is_good I) 0 2)) (laid_out_lem I) (omega arith)
        (λ t p. p t) (λ t i. true≢false (sym i ∙ t)) (λ t. room_row))

    -- "answering as a refused build": count 0, root U, the version as given
    pub read_image_leaves : ((read_image_call m W C I).answer.no ≡ 0 → ⊥)
        → read_image_call m W C I ≡ effect (record { no = (read_image_call m W C I).answer.no; map = record { count = 0; root = U; version = m.version } }) W C
    unfolding read_image_call
    read_image_leaves d = rw read_image_no (kept (read_image_number (length W) (length C) I) _ _ (λ e. d (read_image_no ∙ e)))

-- Said of the code.
pub write-image-code :
    (κs : Lfts 3) (a : K.Dens κs write-image-kinds.ps) (r : (K.res_t write-image-kinds.r κs).Denot) (s : AtExit (K.ended_of 3 write-image-kinds.ps write-image-kinds.r) κs)
    → write-image-reads.Post κs a r s → (y : Refusal) → r ≡ Err y → s.1.1.1.0.now ≡ a.1.1.1.0.now
write-image-code κs a r s p y e =
    let m : Map = a.0 in
    let W : List ℕ = a.1.0.now in
    let C : List ℕ = a.1.1.0.now in
    let out : List ℕ = a.1.1.1.0.now in
    let k : refusal_number y ≡ (write_image_call m W C out).answer.no =
    ap (λ (x : Result ℕ Refusal). (write_answer x).no) (sym e) ∙ ap (λ (x : Output WriteAnswer). x.answer.no) p in
    ap (λ (x : Output WriteAnswer). x.output) (p ∙ write_image_leaves m W C out (refused_number (write_image_call m W C out).answer.no y k))

pub read-image-code :
    (κs : Lfts 3) (a : K.Dens κs read-image-kinds.ps) (r : (K.res_t read-image-kinds.r κs).Denot) (s : AtExit (K.ended_of 3 read-image-kinds.ps read-image-kinds.r) κs)
    → read-image-reads.Post κs a r s → (y : Refusal) → r ≡ Err y → (s.1.0.now ≡ a.1.0.now) × (s.1.1.0.now ≡ a.1.1.0.now)
read-image-code κs a r s p y e =
    let m : Map = a.0 in
    let W : List ℕ = a.1.0.now in
    let C : List ℕ = a.1.1.0.now in
    let I : List ℕ = a.1.1.1.0.now in
    let k : refusal_number y ≡ (read_image_call m W C I).answer.no =
    ap (λ (x : Result Map Refusal). (build_answer m x).no) (sym e) ∙ ap (λ (x : Effect BuildAnswer). x.answer.no) p in
    store_left _ _ (p ∙ read_image_leaves m W C I (refused_number (read_image_call m W C I).answer.no y k))
