use Rattle.std.proofs.Common.{◌≡◌, ℕ, Bool, cond, ltb, leb, arith}
use Rattle.std.proofs.lemmas.Grind.{common_steps}
use Rattle.std.proofs.lemmas.Result.{err_from_is_err_and}
use Rattle.words.specs.Refusals.{refusal_number}
use Rattle.words.specs.declared.refusal.Refusal.{Refusal}
use Rattle.words.proofs.Refusals.{number_pos}
use Rattle.iset.specs.Build.{build_number}
use Rattle.iset.proofs.Layouts.{capacity_same}
use Rattle.iset.proofs.build.test_list.Goals as goal

-- the second of the tests refuses
second : (a : Bool) (c n x : ℕ) (z : Refusal) → ◌≡◌ {A = ℕ} 0 (cond a 0 8) → refusal_number z ≡ cond (leb n c) 0 1
    → refusal_number z ≡ cond a (cond (ltb c n) 1 x) 8
second a c n x z e f = grind (arith, common_steps, number_pos)

pub returns-in_err-sound_if-2 : goal.returns-in_err-sound_if-2
unfolding build_number
returns-in_err-sound_if-2 c =
    let w = c.in_ok-sound_if.ensures in
    let v = c.in_err-sound_if-2.ensures in
    let u = capacity_same _ _ _ _ c.capacity.ensures in
    let p = err_from_is_err_and c.from_residual-in_err-sound_if-2.result c.from_residual-in_err-sound_if-2.ensures.1 in
    rw (p.1, p.2, ← u) (search second)
