-- Document 02, item 12, once over all operations: what an operation answers and leaves on six-word
-- nodes is what it answers and leaves on the unpacked ones.
use mathlib.Core.Path.{◌≡◌, refl, sym, ap, ◌∙◌}
use mathlib.Core.Bool.{Bool, true, false}
use mathlib.Core.List.{List, [], ◌∷◌}
use Prim.Native.Nat.{ℕ}
use Rattle.words.specs.Nodes.{word}
use Rattle.words.specs.Layouts.{unpack, as_eight}
use Rattle.words.specs.declared.node.Field.{Field}
use Rattle.words.proofs.Layouts.{eight_injective}
use Rattle.iset.specs.declared.Map.{Map}
use Rattle.layouts.specs.Operations.{Operation, Answer, Memory, Result, result, map_after}
use Rattle.layouts.specs.Does.{seen, Does, Told, Runs, end, next, operations}

-- the eight-word form says all of the memory
seen_injective : (narrow : Bool) (X Y : Memory) → seen narrow X ≡ seen narrow Y → X ≡ Y
seen_injective narrow X Y e =
    let w : X.words ≡ Y.words = eight_injective narrow X.words Y.words (ap (λ (M : Memory). M.words) e) in
    let c : X.colours ≡ Y.colours = ap (λ (M : Memory). M.colours) e in
    let o : X.out ≡ Y.out = ap (λ (M : Memory). M.out) e in
    λ i. record { words = w i; colours = c i; out = o i }

-- an operation is determined, in either layout
pub determined : (narrow : Bool) (o : Operation) (m : Map) (M X Y : Memory) (a b : Answer o) → Does narrow o m M a X → Does narrow o m M b Y
    → (a ≡ b) × (X ≡ Y)
determined narrow o m M X Y a b d e = (d.answers ∙ sym e.answers, seen_injective narrow X Y (d.leaves ∙ sym e.leaves))

-- "unpacking after an operation gives the map .. that the old operation gives on the unpacked
-- store, and .. the call's other answers and outputs are the same"
pub agrees : (o : Operation) (m : Map) (N X : Memory) (a : Answer o) → Does true o m N a X → Does false o m (seen true N) a (seen true X)
unfolding as_eight
agrees o m N X a d = record { answers = d.answers; leaves = d.leaves }

pub agrees_both : (o : Operation) (m : Map) (N X Y : Memory) (a b : Answer o) → Does true o m N a X → Does false o m (seen true N) b Y
    → (a ≡ b) × (seen true X ≡ Y)
agrees_both o m N X Y a b d e = determined false o m (seen true N) (seen true X) Y a b (agrees o m N X a d) e

-- "and the slots below its count": so of every slot and every field
pub slots_agree : (o : Operation) (m : Map) (N X Y : Memory) (a b : Answer o) → Does true o m N a X → Does false o m (seen true N) b Y
    → (f : Field) (s : ℕ) → word (unpack X.words) f s ≡ word Y.words f s
unfolding as_eight
slots_agree o m N X Y a b d e f s = ap (λ (M : Memory). word M.words f s) (agrees_both o m N X Y a b d e).1

-- any list of operations
pub agrees_runs : (m n : Map) (N Z : Memory) (l : List Told) → Runs true m N l n Z → Runs false m (seen true N) l n (seen true Z)
agrees_runs _ _ _ _ _ (end m N) = end m (seen true N)
agrees_runs _ _ _ _ _ (next m n N X Z l o a d r) =
    next m n (seen true N) (seen true X) (seen true Z) l o a (agrees o m N X a d) (agrees_runs (map_after o m a) n X Z l r)

-- what a list of operations comes to by the rules
tell : List Operation → Map → Memory → List Told
tell [] m M = []
tell (o ∷ l) m M =
    let r : Result (Answer o) = result o m M in
    record { operation = o; answer = r.answer } ∷ tell l (map_after o m r.answer) r.memory

end_map : List Operation → Map → Memory → Map
end_map [] m M = m
end_map (o ∷ l) m M = end_map l (map_after o m (result o m M).answer) (result o m M).memory

end_memory : List Operation → Map → Memory → Memory
end_memory [] m M = M
end_memory (o ∷ l) m M = end_memory l (map_after o m (result o m M).answer) (result o m M).memory

record Ends (l : List Told) (m : Map) (M : Memory) (n : Map) (Z : Memory) : Type 0 where
  told : l ≡ tell (operations l) m M
  map : n ≡ end_map (operations l) m M
  memory : Z ≡ end_memory (operations l) m M

runs_end : (m n : Map) (M Z : Memory) (l : List Told) → Runs false m M l n Z → Ends l m M n Z
unfolding as_eight tell end_map end_memory
runs_end _ _ _ _ _ (end m M) = record { told = refl; map = refl; memory = refl }
runs_end _ _ _ _ _ (next m n M X Z l o a d r) =
    let i : Ends l (map_after o m a) X n Z = runs_end (map_after o m a) n X Z l r in
    let p : a ≡ (result o m M).answer = d.answers in
    let q : X ≡ (result o m M).memory = d.leaves in
    record {
      told = (λ j. record { operation = o; answer = p j } ∷ i.told j) ∙ (λ j. record { operation = o; answer = (result o m M).answer } ∷ tell (operations l) (map_after o m (p j)) (q j));
      map = i.map ∙ (λ j. end_map (operations l) (map_after o m (p j)) (q j));
      memory = i.memory ∙ (λ j. end_memory (operations l) (map_after o m (p j)) (q j));
    }

-- two runs of the same operations, in six words and on the unpacked store, answer the same and come
-- to the same map and memory
pub agrees_all : (m n p : Map) (N Z Y : Memory) (l k : List Told) → Runs true m N l n Z → Runs false m (seen true N) k p Y → operations l ≡ operations k
    → (l ≡ k) × (n ≡ p) × (seen true Z ≡ Y)
agrees_all m n p N Z Y l k r s e =
    let a : Ends l m (seen true N) n (seen true Z) = runs_end m n (seen true N) (seen true Z) l (agrees_runs m n N Z l r) in
    let b : Ends k m (seen true N) p Y = runs_end m p (seen true N) Y k s in (
      a.told ∙ ap (λ (x : List Operation). tell x m (seen true N)) e ∙ sym b.told,
      a.map ∙ ap (λ (x : List Operation). end_map x m (seen true N)) e ∙ sym b.map,
      a.memory ∙ ap (λ (x : List Operation). end_memory x m (seen true N)) e ∙ sym b.memory,
    )
