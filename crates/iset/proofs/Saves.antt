-- Document 02, item 6: both round trips of the calls, and all that is claimed of them.
use Rattle.std.proofs.Common.{◌≡◌, ℕ, ◌≤◌, true, List, length, take, drop, sym, refl, ap, ◌∙◌, arith, le-ltb, eq-eqb, le-leb}
use lib.Seq.{take-append_seam, drop-append_seam}
use Rattle.words.specs.Nodes.{capacity, HoldsBits}
use Rattle.tree.specs.Passes.{Passes}
use Rattle.iter.specs.Drains.{filled}
use Rattle.little.specs.Numbers.{Bytes}
use Rattle.image_rule.specs.Layout.{image_length_lem, count_in_lem, root_in_lem, laid_out_lem}
use Rattle.image_rule.specs.Stored.{is_good, loaded_words, loaded_colours}
use Rattle.image_rule.specs.Written.{Words, image_of}
use Rattle.image_rule.proofs.Laid.{laid}
use Rattle.image_rule.proofs.Stores.{length_loaded_words, length_loaded_colours, loaded_rest, colours_rest}
use Rattle.image_rule.proofs.Reread.{Fit, length_image, count_reread, root_reread, laid_out}
use Rattle.image_rule.proofs.Fitting.{fits}
use Rattle.image_rule.proofs.Rewritten.{written_read}
use Rattle.image_rule.proofs.Roundtrip.{words_back, bits_back, read_passes}
use Rattle.iset.specs.Effects.{Effect, Output, output}
use Rattle.iset.specs.Check.{check_rule}
use Rattle.iset.specs.Maps.{next_map}
use Rattle.iset.specs.Build.{BuildAnswer}
use Rattle.iset.specs.Image.{write_image_number, WriteAnswer, write_done, write_image_call, read_image_number, read_store, read_image_call}
use Rattle.iset.specs.Saved.{image_left, Kept, SameBelow, Request6}
use Rattle.iset.specs.declared.Map.{Map}
use Rattle.iset.proofs.Checks.{both_zero, check_zero, zero_check}
use Rattle.iset.proofs.Orders.{write_image_order}
use Rattle.iset.proofs.Images.{accepts, read_sound, read_call_lem, good_complete}
use Rattle.iset.proofs.ImageRefusals.{write_image_no, write_image_refusals, write_image_leaves, read_image_no, read_image_refusals, read_image_leaves}

-- Writing: accepted exactly if the store passes and the output has room.
module _ (m : Map) (W C out : List ℕ) where
  abbrev I : List ℕ
  I = image_of m.count m.root W C

  write_zero : check_rule m W C ≡ 0 → image_length_lem m.count ≤ length out → write_image_number m W C (length out) ≡ 0
  write_zero e h = write_image_order m W C (length out) ∙ rw (e, le-leb (image_length_lem m.count) (length out) h) refl

  written_call : write_image_number m W C (length out) ≡ 0 → write_image_call m W C out ≡ output (write_done (image_length_lem m.count)) (filled I out)
  unfolding write_image_call
  written_call e = rw (eq-eqb (write_image_number m W C (length out)) 0 e)

  module _ (e : write_image_number m W C (length out) ≡ 0) where
    sound : check_rule m W C ≡ 0
    sound = (both_zero (check_rule m W C) _ (sym (write_image_order m W C (length out)) ∙ e)).0

    bits : HoldsBits C m.count
    bits = omega (arith, (check_zero m W C sound).0)

    -- the image is in the first bytes, and those past it stay
    left_is : image_left m W C out ≡ I
    unfolding filled
    left_is =
        ap (λ (c : Output WriteAnswer). take c.answer.length c.output) (written_call e)
        ∙ ap (λ (k : ℕ). take k (filled I out)) (sym (length_image W C m.count m.root bits)) ∙ take-append_seam I (drop (length I) out)

    rest_is : drop (image_length_lem m.count) (write_image_call m W C out).output ≡ drop (image_length_lem m.count) out
    unfolding filled
    rest_is =
        ap (λ (c : Output WriteAnswer). drop (image_length_lem m.count) c.output) (written_call e)
        ∙ rw (← length_image W C m.count m.root bits) (drop-append_seam I (drop (length I) out))

-- Reading an image that is accepted.
module _ (m : Map) (W C I : List ℕ) (e : read_image_number (length W) (length C) I ≡ 0) where
  kept : Kept (count_in_lem I) W C (read_store m W C I)
  kept = record {
    words_kept = λ f s h. loaded_rest I (count_in_lem I) (root_in_lem I) W f s h;
    words_length = length_loaded_words I (count_in_lem I) (root_in_lem I) W;
    bits_kept = λ s h. colours_rest I (count_in_lem I) C s h;
    bits_length = length_loaded_colours I (count_in_lem I) C;
  }

  read_keeps : Kept (count_in_lem I) W C (read_image_call m W C I)
  read_keeps = rw (read_call_lem W C I e m) kept

  read_passes_call : Passes (read_image_call m W C I).words (read_image_call m W C I).colours (count_in_lem I) (root_in_lem I)
  read_passes_call = rw (read_call_lem W C I e m) (read_sound W C I e)

  -- what is left is written to the same bytes
  module _ (bytes : Bytes I) (too : Bytes C) (out : List ℕ) (h : length I ≤ length out) where
    abbrev n : ℕ
    n = count_in_lem I

    abbrev r : ℕ
    r = root_in_lem I

    abbrev X : List ℕ
    X = loaded_words I n r W

    abbrev D : List ℕ
    D = loaded_colours I n C

    roomy : n ≤ capacity (length W) (length C)
    roomy = (accepts W C I e).1

    whole : length I ≡ image_length_lem n
    whole = (laid I (accepts W C I e).0).whole

    same : image_of n r X D ≡ I
    same = written_read I W C bytes too (accepts W C I e).0 (omega (arith, roomy)) (omega (arith, roomy))

    zero_number : write_image_number (next_map m n r) X D (length out) ≡ 0
    zero_number =
        write_zero (next_map m n r) X D out
        (zero_check (next_map m n r) X D (rw (length_loaded_words I n r W, length_loaded_colours I n C) roomy) (read_sound W C I e))
        (omega (arith, whole))

    again_store : ((write_image_call (next_map m n r) X D out).answer ≡ write_done (length I)) × (image_left (next_map m n r) X D out ≡ I)
    again_store = (
      ap (λ (c : Output WriteAnswer). c.answer) (written_call (next_map m n r) X D out zero_number) ∙ ap write_done (sym whole),
      left_is (next_map m n r) X D out zero_number ∙ same,
    )

    again : let c = read_image_call m W C I in
        ((write_image_call c.answer.map c.words c.colours out).answer ≡ write_done (length I))
        × (image_left c.answer.map c.words c.colours out ≡ I)
    again = rw (read_call_lem W C I e m) again_store

-- Reading what was written.
module _ (m : Map) (W C : List ℕ) (wide : Words W) (e : check_rule m W C ≡ 0) (o : Map) (X D : List ℕ) (h : m.count ≤ capacity (length X) (length D)) where
  abbrev J : List ℕ
  J = image_of m.count m.root W C

  here : m.count ≤ capacity (length W) (length C)
  here = (check_zero m W C e).0

  P : Passes W C m.count m.root
  P = (check_zero m W C e).1

  fit : Fit W m.count m.root
  fit = fits W C m.count m.root (omega (arith, here)) wide P

  count_is : count_in_lem J ≡ m.count
  count_is = count_reread W C m.count m.root (omega (arith, here)) fit

  root_is : root_in_lem J ≡ m.root
  root_is = root_reread W C m.count m.root (omega (arith, here)) fit

  laid_is : laid_out_lem J ≡ true
  laid_is = laid_out W C m.count m.root (omega (arith, here)) fit

  good_is : is_good J ≡ true
  good_is =
      good_complete X D J (rw count_is h)
      (rw (count_is, root_is) (read_passes W C m.count m.root P fit (omega (arith, here)) X D (omega arith) (omega arith)))

  zero_read : read_image_number (length X) (length D) J ≡ 0
  unfolding read_image_number
  zero_read = rw (laid_is, good_is, count_is, le-ltb (capacity (length X) (length D)) m.count h) refl

  back_store : ((read_store o X D J).answer ≡ record { no = 0; map = next_map o m.count m.root }) × SameBelow m W C (read_store o X D J)
  back_store = (
    (λ i. record { no = 0; map = next_map o (count_is i) (root_is i) }),
    rw (count_is, root_is) (record {
      words_same = λ f s q. words_back W C m.count m.root P fit (omega (arith, here)) X D (omega arith) (omega arith) f s q;
      bits_same = λ s q. bits_back W C m.count m.root P fit (omega (arith, here)) X D (omega arith) (omega arith) s q;
    }),
  )

  back : ((read_image_call o X D J).answer ≡ record { no = 0; map = next_map o m.count m.root }) × SameBelow m W C (read_image_call o X D J)
  back = rw (read_call_lem X D J zero_read o) back_store

pub request_6 : (m : Map) (W C : List ℕ) → Request6 m W C
request_6 m W C =
    record {
      write_refusals = λ out. write_image_refusals m W C out;
      write_refused = λ out. write_image_leaves m W C out;
      writes = λ out e.
          let z = sym (write_image_no m W C out) ∙ e in
          (ap (λ (c : Output WriteAnswer). c.answer.length) (written_call m W C out z), left_is m W C out z, rest_is m W C out z);
      read_refusals = λ I. read_image_refusals m W C I;
      read_refused = λ I. read_image_leaves m W C I;
      reads = λ I e. ap (λ (c : Effect BuildAnswer). c.answer.map) (read_call_lem W C I (sym (read_image_no m W C I) ∙ e) m);
      read_sound = λ I e. read_passes_call m W C I (sym (read_image_no m W C I) ∙ e);
      read_keeps = λ I e. read_keeps m W C I (sym (read_image_no m W C I) ∙ e);
      back = λ wide out e o X D h.
          let z = sym (write_image_no m W C out) ∙ e in
          rw (left_is m W C out z) (back m W C wide (sound m W C out z) o X D h);
      again = λ too I bytes e out h. again m W C I (sym (read_image_no m W C I) ∙ e) bytes too out h;
    }
