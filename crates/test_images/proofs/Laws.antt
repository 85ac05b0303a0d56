-- A test that a function made, and that said yes.
use mathlib.Core.Path.{◌≡◌, sym, ◌∙◌}
use mathlib.Core.Bool.{Bool, true}

pub said : (b d : Bool) → b ≡ d → b ≡ true → d ≡ true
said b d e t = sym e ∙ t
