-- Document 02's item 10, of the public calls.
use mathlib.Core.Path.{sym, ◌∙◌}
use mathlib.Core.List.{List}
use Prim.Native.Nat.{ℕ}
use Rattle.iter.specs.Cursors.{fresh}
use Rattle.iter.specs.declared.rules.Query.TheVariants.{Overlap}
use Rattle.disjoint_rule.specs.Point.{only}
use Rattle.iset.specs.declared.Map.{Map}
use Rattle.disjoint.specs.Demands.{Request10}
use Rattle.disjoint.proofs.Checks.{disjoint_refusals, disjoint_zero, empty_sound}
use Rattle.disjoint.proofs.Pointing.{drain_no, point_no, point_refusals, point_leaves, enters_few, same_step, same_drain}
use Rattle.disjoint.proofs.Placings.{place_no, place_check, place_refusals, place_names, place_refused, place_low, places}
use Rattle.disjoint.proofs.Takings.{take_no, take_refusals, take_refused, takes}
use Rattle.disjoint.proofs.Opened.{point_is, place_is, take_is}
use Rattle.disjoint.proofs.Sequence.{disjoint_calls_sound, disjoint_opened_calls}

pub request_10 : (m : Map) (W C : List ℕ) → Request10 m W C
request_10 m W C =
    record {
      check = disjoint_refusals m W C;
      accepted = disjoint_zero m W C;
      empty = empty_sound W C;
      point_refusals = λ x. point_refusals m W C x;
      point_refused = λ x. point_leaves m W C x;
      point_low = λ x e. enters_few m W C x (sym (point_no m W C x) ∙ e);
      point_step = λ x e. same_step m W C x (sym (point_no m W C x) ∙ e);
      point_drain = λ x limit out e z h.
          same_drain m W C x (sym (point_no m W C x) ∙ e) limit out (sym (drain_no m W C (Overlap (only x)) (fresh m.root) limit out) ∙ z) h;
      place_check = λ e d. place_no m W C e ∙ place_check m W C e d;
      place_refusals = λ e z. place_refusals m W C e z;
      place_names = λ e z P. place_names m W C e (sym (place_no m W C e) ∙ z) P;
      place_refused = λ e. place_refused m W C e;
      place_low = λ e z P. place_low m W C e z P;
      places = λ e z. places m W C e (sym (place_no m W C e) ∙ z);
      take_refusals = λ s. take_refusals m W C s;
      take_refused = λ s. take_refused m W C s;
      takes = λ s z. takes m W C s (sym (take_no m W C s) ∙ z);
      calls_sound = λ h l. disjoint_calls_sound l (record { map = m; words = W; colours = C }) h;
      opened_point = point_is m W C;
      opened_place = place_is m W C;
      opened_take = take_is m W C;
      opened_calls = λ h l. disjoint_opened_calls l (record { map = m; words = W; colours = C }) h;
    }
