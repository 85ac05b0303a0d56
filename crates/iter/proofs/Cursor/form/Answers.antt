use Rattle.words.proofs.Tests.{picked, passed}
use Rattle.iter.specs.Forms.{form_of}
use Rattle.iter.proofs.Cursor.form.Goals as goal

pub returns-then-is_same : goal.returns-then-is_same
unfolding form_of
returns-then-is_same c = search picked

pub returns-then-is_same-2 : goal.returns-then-is_same-2
unfolding form_of
returns-then-is_same-2 c = search (picked, passed)

pub returns-then-is_held : goal.returns-then-is_held
unfolding form_of
returns-then-is_held c = search (picked, passed)

pub returns-else-is_held : goal.returns-else-is_held
unfolding form_of
returns-else-is_held c = search passed
