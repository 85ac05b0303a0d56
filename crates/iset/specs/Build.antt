-- "build 8, 1, 5, 6", each over the whole input
-- Letters: W words, C colours, n count, m map that is replaced, S triples, k number of a refusal,
--   y refusal, g answer of the code
use Rattle.std.specs.Prelude.{ℕ, ◌/◌, ◌%◌, cond, List, length, ◌==◌, nat_lt, Result, Ok, Err}
use Rattle.words.specs.Ix.{U}
use Rattle.words.specs.Nodes.{capacity}
use Rattle.words.specs.Refusals.{refusal_number}
use Rattle.words.specs.declared.refusal.Refusal.{Refusal}
use Rattle.builder.specs.Input.{all_proper_lem, sorted}
use Rattle.builder.specs.Build.{build_words, build_colours, build_root}
use Rattle.iset.specs.Effects.{Effect, effect}
use Rattle.iset.specs.Maps.{map_at, next_map}
use Rattle.iset.specs.declared.Map.{Map}

-- the refusal's number, 0 for none, of the list S for so many words and bytes
unfoldable pub build_number : (words bytes : ℕ) (triples : List ℕ) → ℕ
build_number words bytes S =
    cond (length S % 3 == 0)
    (cond (nat_lt (capacity words bytes) (length S / 3)) 1 (cond (all_proper_lem S) (cond (sorted S) 0 6) 5))
    8

-- what it answers: the refusal's number and the new map
pub record BuildAnswer : Type 0 where
  pub no : ℕ
  pub map : Map

-- "a refused build: count 0, root U", and by document 02, item 4: "a refusal leaves the version"
abbrev pub refused_build : (map : Map) (number : ℕ) → BuildAnswer
refused_build m k = record { no = k; map = map_at 0 U m.version }

-- what the code's answer stands for, of a build in the place of the map m
abbrev pub build_answer : (map : Map) (built : Result Map Refusal) → BuildAnswer
build_answer m (Ok g) = record { no = 0; map = g }
build_answer m (Err y) = refused_build m (refusal_number y)

-- a list that is accepted
abbrev pub build_list_lem : (map : Map) (words colours triples : List ℕ) → Effect BuildAnswer
build_list_lem m W C S =
    let n : ℕ = length S / 3 in
    effect (record { no = 0; map = next_map m n (build_root n) }) (build_words S n W) (build_colours n C)

-- the call: in the place of the map m, of which the version alone counts, in the words W and the
-- colours C, from the list S
unfoldable pub build_call : (map : Map) (words colours triples : List ℕ) → Effect BuildAnswer
build_call m W C S =
    let k : ℕ = build_number (length W) (length C) S in
    cond (k == 0) (build_list_lem m W C S) (effect (refused_build m k) W C)
