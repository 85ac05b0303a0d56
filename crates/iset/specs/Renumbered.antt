-- Document 02, item 14, as one statement about what the public calls answer and leave: numbering
-- the slots anew. `proofs/Renumberings` proves it.
-- Letters: S state, T state afterwards, X words, D colours, f field, a slot, i place, s slot,
--   P proof that the store passes
use Rattle.std.specs.Prelude.{◌≡◌, ℕ, ◌<◌, ◌≤◌, List, map, length, take, ◌≢◌, slice_index}
use Rattle.words.specs.Nodes.{word, entry}
use Rattle.words.specs.declared.node.Field.{Field}
use Rattle.bitvec.specs.Colours.{red}
use Rattle.tree.specs.Tree.{slots}
use Rattle.tidy_rule.specs.Plan.{renamed}
use Rattle.tidy_rule.specs.Tidied.{with_slots, Tidied}
use Rattle.iset.specs.Effects.{Effect, effect, Output, output}
use Rattle.iset.specs.Check.{check_rule}
use Rattle.iset.specs.Maps.{next_map}
use Rattle.iset.specs.Refusals.{Exactly, propose_rows, renumber_rows}
use Rattle.iset.specs.Sequence.{renumber, State, answered}
use Rattle.iset.specs.Tidy.{RenumberAnswer, refused_renumbering, open_propose_call, propose_call, open_renumber_call, renumber_call}
use Rattle.iset.specs.Unloaded.{Good}

-- both calls in a state
abbrev pub propose_in_lem : (state : State) (out : List ℕ) → Output ℕ
propose_in_lem S out = propose_call S.map S.words S.colours out

abbrev pub renumber_in_lem : (state : State) (plan : List ℕ) → Effect RenumberAnswer
renumber_in_lem S plan = renumber_call S.map S.words S.colours plan

-- the plan that the planner writes: the first places of its output, one for each slot
abbrev pub proposal_of : (state : State) (out : List ℕ) → List ℕ
proposal_of S out = take S.map.count (propose_in_lem S out).output

-- the state after a renumbering by it
abbrev pub tidied_by : (state : State) (out : List ℕ) → State
tidied_by S out = answered S (renumber (proposal_of S out))

-- two states that read the same, slot by slot
pub record ReadsAs (S : State) (X D : List ℕ) : Type 0 where
  pub words : (f : Field) (a : ℕ) → word S.words f a ≡ word X f a
  pub colours : (a : ℕ) → red S.colours a ≡ red D a

-- What an accepted plan makes of a state S, whose tree is that of P: the state T.
pub record Renumbered (S T : State) (P : Good S) (plan : List ℕ) : Type 0 where
  -- "then every node moves with its colour and links", and nothing else changes
  pub moves : Tidied S.map.count plan S.words S.colours T.words T.colours
  -- no other words and colours are what that says
  pub unique : (X D : List ℕ) → Tidied S.map.count plan S.words S.colours X D → ReadsAs T X D
  -- "tree order and shape staying"
  pub passes : Good T
  pub shape : passes.tree ≡ with_slots (λ s. slice_index plan s) P.tree
  pub entries : map (entry T.words) (slots passes.tree) ≡ map (entry S.words) (slots P.tree)
  -- the count stays, the root is where its node went, and "the version rises by one"
  pub map_is : T.map ≡ next_map S.map S.map.count (renamed S.map.count plan S.map.root)

pub record Request14 (S : State) : Type 0 where
  -- "the planner 1, 2, 9 (short output)", and a refusal writes nothing
  pub propose_refusals : (out : List ℕ) → Exactly (propose_rows S.map S.words S.colours (length out)) (propose_in_lem S out).answer
  pub propose_refused : (out : List ℕ) → ((propose_in_lem S out).answer ≢ 0) → propose_in_lem S out ≡ output (propose_in_lem S out).answer out
  -- "A planner proposes a new slot for each old one: its place in tree order"; what the output has
  -- from the count up stays
  pub proposes : (out : List ℕ) → (propose_in_lem S out).answer ≡ 0 → (P : Good S) (place : ℕ) → place < S.map.count
      → slice_index (propose_in_lem S out).output (slice_index (slots P.tree) place) ≡ place
  pub proposes_below : (out : List ℕ) → (propose_in_lem S out).answer ≡ 0
      → (length (propose_in_lem S out).output ≡ length out)
      × ((s : ℕ) → S.map.count ≤ s → slice_index (propose_in_lem S out).output s ≡ slice_index out s)
  -- "A separate step accepts a proposal .. exactly if it names each slot below count once"; "15
  -- BadPlan, after 2, for any other proposal"; and a refused call leaves everything
  pub renumber_refusals : (plan : List ℕ) → Exactly (renumber_rows S.map S.words S.colours plan) (renumber_in_lem S plan).answer.no
  pub renumber_refused : (plan : List ℕ) → ((renumber_in_lem S plan).answer.no ≢ 0)
      → renumber_in_lem S plan ≡ effect (refused_renumbering S.map (renumber_in_lem S plan).answer.no) S.words S.colours
  pub renumbers : (plan : List ℕ) → (renumber_in_lem S plan).answer.no ≡ 0 → (P : Good S) → Renumbered S (answered S (renumber plan)) P plan
  pub passes : (plan : List ℕ) → (renumber_in_lem S plan).answer.no ≡ 0
      → let T = answered S (renumber plan) in check_rule T.map T.words T.colours ≡ 0
  -- a plan that moves nothing: the store reads as it did
  pub idle : (plan : List ℕ) → (renumber_in_lem S plan).answer.no ≡ 0 → ((s : ℕ) → s < S.map.count → slice_index plan s ≡ s)
      → ReadsAs (answered S (renumber plan)) S.words S.colours
  -- the planner's proposal is accepted; after it slot i is place i
  pub accepted : (out : List ℕ) → (propose_in_lem S out).answer ≡ 0 → (renumber_in_lem S (proposal_of S out)).answer.no ≡ 0
  pub in_order : (out : List ℕ) → (propose_in_lem S out).answer ≡ 0 → (P : Good (tidied_by S out)) (i : ℕ) → i < S.map.count
      → slice_index (slots P.tree) i ≡ i
  -- "Proposing again on a tidied map proposes no move."
  pub no_move : (out again : List ℕ) → (propose_in_lem S out).answer ≡ 0 → S.map.count ≤ length again
      → ((propose_in_lem (tidied_by S out) again).answer ≡ 0)
      × ((s : ℕ) → s < S.map.count → slice_index (propose_in_lem (tidied_by S out) again).output s ≡ s)
  -- the opened calls, on a store that passes
  pub opened_propose : (out : List ℕ) → check_rule S.map S.words S.colours ≡ 0 → open_propose_call S.map S.words S.colours out ≡ propose_in_lem S out
  pub opened_renumber : (plan : List ℕ) → check_rule S.map S.words S.colours ≡ 0
      → open_renumber_call S.map S.words S.colours plan ≡ renumber_in_lem S plan
