use Rattle.std.proofs.lemmas.Result.{err_from_is_err_and}
use Rattle.image_text.proofs.Arms.{complete_few, complete_taken, judged_refused, judged_done, judged_short}
use Rattle.image_text.proofs.reading.State.judged.Goals as goal

pub image_length-n-requires : goal.image_length-n-requires
image_length-n-requires c = search complete_few

pub slice_bounds-judge_image-end : goal.slice_bounds-judge_image-end
slice_bounds-judge_image-end c = search complete_taken

pub returns-then-is_complete : goal.returns-then-is_complete
returns-then-is_complete c = search (judged_done, c.in_ok-self.was)

pub returns-else-is_complete : goal.returns-else-is_complete
returns-else-is_complete c = search (judged_short, c.in_ok-self.was)

pub returns-in_err-self : goal.returns-in_err-self
returns-in_err-self c =
    let w = c.in_err-self.was in
    let p = err_from_is_err_and c.from_residual.result c.from_residual.ensures.1 in
    rw (p.1, p.2) (search judged_refused)
