-- A plan as text, and what is wrong with one in words.
-- Letters: c count, b before (the line that came first), w which (old or new), s old slot or slot,
--   v new slot, P plan, n line (its number), f flaw, x interval
use Rattle.std.specs.Prelude.{Result, Ok, Err, List, [], ◌∷◌, ◌++◌, ℕ, ◌+◌}
use Rattle.lines.specs.Output.{number, next}
use Rattle.plan_text.specs.declared.reading.Flaw.{Flaw}
use Rattle.plan_text.specs.declared.reading.Flaw.TheVariants.{Form, High, OldAgain, NewAgain, Missing}

-- a line `old new`
unfoldable pub row : (old new : ℕ) → List ℕ
row s v = number s ++ (next v ++ (10 ∷ []))  -- "\n"

-- the lines of the slots from s on
unfoldable pub rows : (old : ℕ) (plan : List ℕ) → List ℕ
rows s [] = []
rows s (v ∷ P) = row s v ++ rows (s + 1) P

-- the words of a flaw
abbrev pub take_word : List ℕ
take_word = 116 ∷ 97 ∷ 107 ∷ 101 ∷ 32 ∷ 116 ∷ 104 ∷ 101 ∷ 32 ∷ 112 ∷ 108 ∷ 97 ∷ 110 ∷ 58 ∷ 32 ∷ []  -- "take the plan: "

abbrev pub line_word : List ℕ
line_word = 108 ∷ 105 ∷ 110 ∷ 101 ∷ 32 ∷ []  -- "line "

abbrev pub colon_word : List ℕ
colon_word = 58 ∷ 32 ∷ []  -- ": "

abbrev pub form_word : List ℕ
form_word = 110 ∷ 111 ∷ 116 ∷ 32 ∷ 116 ∷ 119 ∷ 111 ∷ 32 ∷ 110 ∷ 117 ∷ 109 ∷ 98 ∷ 101 ∷ 114 ∷ 115 ∷ 32 ∷ 119 ∷ 105 ∷ 116 ∷ 104 ∷ 32 ∷ 111 ∷ 110 ∷ 101 ∷ 32 ∷ 115 ∷ 112 ∷ 97 ∷ 99 ∷ 101 ∷ 32 ∷ 98 ∷ 101 ∷ 116 ∷ 119 ∷ 101 ∷ 101 ∷ 110 ∷ 32 ∷ 116 ∷ 104 ∷ 101 ∷ 109 ∷ []  -- "not two numbers with one space between them"

abbrev pub slot_word : List ℕ
slot_word = 115 ∷ 108 ∷ 111 ∷ 116 ∷ 32 ∷ []  -- "slot "

abbrev pub high_word : List ℕ
high_word = 32 ∷ 105 ∷ 115 ∷ 32 ∷ 110 ∷ 111 ∷ 116 ∷ 32 ∷ 98 ∷ 101 ∷ 108 ∷ 111 ∷ 119 ∷ 32 ∷ 116 ∷ 104 ∷ 101 ∷ 32 ∷ 99 ∷ 111 ∷ 117 ∷ 110 ∷ 116 ∷ 44 ∷ 32 ∷ []  -- " is not below the count, "

abbrev pub old_word : List ℕ
old_word = 111 ∷ 108 ∷ 100 ∷ 32 ∷ 115 ∷ 108 ∷ 111 ∷ 116 ∷ 32 ∷ []  -- "old slot "

abbrev pub new_word : List ℕ
new_word = 110 ∷ 101 ∷ 119 ∷ 32 ∷ 115 ∷ 108 ∷ 111 ∷ 116 ∷ 32 ∷ []  -- "new slot "

abbrev pub on_word : List ℕ
on_word = 32 ∷ 105 ∷ 115 ∷ 32 ∷ 111 ∷ 110 ∷ 32 ∷ 108 ∷ 105 ∷ 110 ∷ 101 ∷ 32 ∷ []  -- " is on line "

abbrev pub again_word : List ℕ
again_word = 32 ∷ 97 ∷ 108 ∷ 114 ∷ 101 ∷ 97 ∷ 100 ∷ 121 ∷ []  -- " already"

abbrev pub missing_word : List ℕ
missing_word = 110 ∷ 111 ∷ 32 ∷ 108 ∷ 105 ∷ 110 ∷ 101 ∷ 32 ∷ 102 ∷ 111 ∷ 114 ∷ 32 ∷ 111 ∷ 108 ∷ 100 ∷ 32 ∷ 115 ∷ 108 ∷ 111 ∷ 116 ∷ 32 ∷ []  -- "no line for old slot "

-- `line N: `
unfoldable pub on_line : (line : ℕ) → List ℕ
on_line n = line_word ++ (number n ++ colon_word)

unfoldable pub form_text : (line : ℕ) → List ℕ
form_text n = on_line n ++ form_word

unfoldable pub high_text : (line slot count : ℕ) → List ℕ
high_text n s c = on_line n ++ (slot_word ++ (number s ++ (high_word ++ number c)))

unfoldable pub again_text : (which : List ℕ) (line slot before : ℕ) → List ℕ
again_text w n s b = on_line n ++ (w ++ (number s ++ (on_word ++ (number b ++ again_word))))

unfoldable pub missing_text : (slot : ℕ) → List ℕ
missing_text s = missing_word ++ number s

abbrev pub flaw_said : (flaw : Flaw) → List ℕ
flaw_said (Form n) = form_text n
flaw_said (High n s c) = high_text n s c
flaw_said (OldAgain n s b) = again_text old_word n s b
flaw_said (NewAgain n s b) = again_text new_word n s b
flaw_said (Missing s) = missing_text s

-- what a program cannot do, as `lines::output::complain` says it; why, if there is a flaw
abbrev pub flaw_text : (checked : Result Unit Flaw) → List ℕ
flaw_text (Ok x) = take_word
flaw_text (Err f) = take_word ++ flaw_said f
