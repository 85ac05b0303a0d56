-- Store A's image as text, and the text as image, computed; texts that are refused.
use Rattle.std.specs.Prelude.{Result, Ok, Err}
use Rattle.words.specs.declared.refusal.Refusal.{Refusal}
use Rattle.words.specs.declared.refusal.Refusal.TheVariants.{NoRoom, Broken, BadList}
use mathlib.Core.Path.{◌≡◌, refl}
use mathlib.Core.List.{List, [], ◌∷◌, ◌++◌}
use Prim.Native.Nat.{ℕ, ◌-◌}
use lib.ListN.{length, set, take, replicate}
use Rattle.bitvec.specs.Bits.{bit, put, bit_at, set_bit}
use Rattle.bitvec.specs.Calls.{bytes_for}
use Rattle.audit.specs.Survey.{pass}
use Rattle.little.specs.Numbers.{number, digits}
use Rattle.lines.specs.Input.{digit_of_lem, on_some, appended}
use Rattle.lines.specs.Output.{decimal}
use Rattle.image_rule.specs.Judge.{whole_at}
use Rattle.image_rule.specs.Layout.{laid_out_lem}
use Rattle.image_rule.specs.Written.{header}
use Rattle.image_rule.proofs.Examples.{image_A, image_0}
use Rattle.image_text.specs.Judging.{image_checked}
use Rattle.image_text.specs.Text.{link_text, head, entry_text, links_text, colour_text, row, rows, map_text, refusal_text, image_text_lem}
use Rattle.image_text.specs.Words.{longer_name_lem, word_byte, small_in, link_said}
use Rattle.image_text.specs.Reading.{Stage, stage, begun, end_of, room_for, named, counted, framed, framed_in, rooted, head_item_lem, numbered}
use Rattle.image_text.specs.Reading.{entry_field_lem, link_field_lem, colour_field_lem, field, row_item_lem, item, stepped, fed, last_of, is_complete, judged_as, outcome_of}

-- the text of store A, and that of the empty map
unfoldable pub text_A : List ℕ
text_A =
    -- "count 5 root 2\n"
    99 ∷ 111 ∷ 117 ∷ 110 ∷ 116 ∷ 32 ∷ 53 ∷ 32 ∷ 114 ∷ 111 ∷ 111 ∷ 116 ∷ 32 ∷ 50 ∷ 10 ∷
    -- "0 10 20 1 - - 1 red\n"
    48 ∷ 32 ∷ 49 ∷ 48 ∷ 32 ∷ 50 ∷ 48 ∷ 32 ∷ 49 ∷ 32 ∷ 45 ∷ 32 ∷ 45 ∷ 32 ∷ 49 ∷ 32 ∷ 114 ∷ 101 ∷ 100 ∷ 10 ∷
    -- "1 10 30 2 0 - 2 black\n"
    49 ∷ 32 ∷ 49 ∷ 48 ∷ 32 ∷ 51 ∷ 48 ∷ 32 ∷ 50 ∷ 32 ∷ 48 ∷ 32 ∷ 45 ∷ 32 ∷ 50 ∷ 32 ∷ 98 ∷ 108 ∷ 97 ∷ 99 ∷ 107 ∷ 10 ∷
    -- "2 25 40 3 1 4 - black\n"
    50 ∷ 32 ∷ 50 ∷ 53 ∷ 32 ∷ 52 ∷ 48 ∷ 32 ∷ 51 ∷ 32 ∷ 49 ∷ 32 ∷ 52 ∷ 32 ∷ 45 ∷ 32 ∷ 98 ∷ 108 ∷ 97 ∷ 99 ∷ 107 ∷ 10 ∷
    -- "3 40 50 4 - - 4 red\n"
    51 ∷ 32 ∷ 52 ∷ 48 ∷ 32 ∷ 53 ∷ 48 ∷ 32 ∷ 52 ∷ 32 ∷ 45 ∷ 32 ∷ 45 ∷ 32 ∷ 52 ∷ 32 ∷ 114 ∷ 101 ∷ 100 ∷ 10 ∷
    -- "4 45 60 5 3 - 2 black\n"
    52 ∷ 32 ∷ 52 ∷ 53 ∷ 32 ∷ 54 ∷ 48 ∷ 32 ∷ 53 ∷ 32 ∷ 51 ∷ 32 ∷ 45 ∷ 32 ∷ 50 ∷ 32 ∷ 98 ∷ 108 ∷ 97 ∷ 99 ∷ 107 ∷ 10 ∷
    []

unfoldable pub text_0 : List ℕ
text_0 = 99 ∷ 111 ∷ 117 ∷ 110 ∷ 116 ∷ 32 ∷ 48 ∷ 32 ∷ 114 ∷ 111 ∷ 111 ∷ 116 ∷ 32 ∷ 45 ∷ 10 ∷ []  -- "count 0 root -\n"

-- what a text comes to, in 226 bytes that are 7 before
abbrev after : List ℕ → Stage
after s = last_of (fed (stage begun (replicate 226 7)) s)

abbrev outcome : List ℕ → Result ℕ Refusal
outcome s = outcome_of (after s)

computing : Unit {0}
unfolding image_text_lem map_text refusal_text head rows row entry_text links_text colour_text link_text decimal image_checked laid_out_lem number bytes_for whole_at pass bit_at bit image_A image_0 text_A text_0 digit_of_lem on_some appended longer_name_lem word_byte small_in link_said end_of room_for named counted framed framed_in rooted head_item_lem numbered entry_field_lem link_field_lem colour_field_lem field row_item_lem item stepped fed last_of is_complete judged_as outcome_of header digits set_bit put
computing = record {}

pub record Told : Type 0 where
  pub shown : image_text_lem image_A ≡ text_A
  pub shown_empty : image_text_lem image_0 ≡ text_0
  pub shown_short : image_text_lem (take 224 image_A) ≡ refusal_text 12
  pub shown_broken : image_text_lem (set image_A 4 7) ≡ refusal_text 2
  pub done : outcome text_A ≡ Ok 225
  pub image : (after text_A).image ≡ image_A ++ (7 ∷ [])
  pub done_empty : outcome text_0 ≡ Ok 44
  pub image_empty : take 44 (after text_0).image ≡ image_0
  pub no_end : outcome (take (length text_A - 1) text_A) ≡ Ok 225
  pub nothing : outcome [] ≡ Err BadList
  pub a_line_more : outcome (text_A ++ (10 ∷ [])) ≡ Err BadList
  pub a_word_more : outcome (text_A ++ (48 ∷ [])) ≡ Err BadList
  pub a_line_less : outcome (take 15 text_A) ≡ Err BadList
  pub no_space : outcome (set text_A 5 48) ≡ Err BadList
  pub another_name : outcome (set text_A 0 67) ≡ Err BadList
  pub another_slot : outcome (set text_A 15 49) ≡ Err BadList
  pub another_colour : outcome (set text_A 31 82) ≡ Err BadList
  pub no_room : outcome (set text_A 6 54) ≡ Err NoRoom
  pub broken : outcome (set text_A 13 51) ≡ Err Broken

pub told : Told
unfolding computing
told = record {
  shown = refl;
  shown_empty = refl;
  shown_short = refl;
  shown_broken = refl;
  done = refl;
  image = refl;
  done_empty = refl;
  image_empty = refl;
  no_end = refl;
  nothing = refl;
  a_line_more = refl;
  a_word_more = refl;
  a_line_less = refl;
  no_space = refl;
  another_name = refl;
  another_slot = refl;
  another_colour = refl;
  no_room = refl;
  broken = refl;
}
