-- Where the words of a node stand. A node has eight words, or six: document 02, item 12, "start,
-- end, value, hull start, hull end, links (left in the lowest bits, then right, then parent, top 16
-- bits 0)". What is said of a store is said of the eight-word form of its words, `as_eight`.
-- Letters: W words, n count, k short, v link or new word or new, w word of a node, b side (true:
--   left) or end, s slot, N six-word nodes or words, a start, c value, d hull start, e hull end
use Rattle.std.specs.Prelude.{Bool, true, false, cond, not, ◌||◌, ◌&&◌, List, [], ◌∷◌, ℕ, ◌+◌, ◌*◌, ◌-◌, ◌/◌, ◌%◌, ◌≤◌, min, eqb, ltb, leb, length}
use Rattle.words.specs.Ix.{U}
use Rattle.words.specs.Nodes.{bits_of}
use Rattle.words.specs.declared.node.Field.{Field}
use Rattle.words.specs.declared.node.Field.TheVariants.{Start, End, Value, HullStart, HullEnd, Child, Parent}

-- "16 bits each with 65535 as undefined": the link word of a link in 16 bits. A number above 65535,
-- a parent whose top bits are not 0, becomes one above U, which is no link of any store.
unfoldable pub widened : (short : ℕ) → ℕ
widened k = cond (ltb k 65535) k (k + 4294901760)

-- the reverse
unfoldable pub narrowed : (link : ℕ) → ℕ
narrowed v = cond (ltb v 65535) v (v - 4294901760)

-- where the word of a field stands among the six
abbrev pub packed_place_lem : (field : Field) → ℕ
packed_place_lem Start = 0
packed_place_lem End = 1
packed_place_lem Value = 2
packed_place_lem HullStart = 3
packed_place_lem HullEnd = 4
packed_place_lem (Child b) = 5
packed_place_lem Parent = 5

-- what the word w at that place holds of a field, and the word with v written for the field
unfoldable pub field_in : (field : Field) (word : ℕ) → ℕ
field_in Start w = w
field_in End w = w
field_in Value w = w
field_in HullStart w = w
field_in HullEnd w = w
field_in (Child true) w = widened (w % 65536)
field_in (Child false) w = widened (w / 65536 % 65536)
field_in Parent w = widened (w / 4294967296)

unfoldable pub field_put : (field : Field) (word new : ℕ) → ℕ
field_put Start w v = v
field_put End w v = v
field_put Value w v = v
field_put HullStart w v = v
field_put HullEnd w v = v
field_put (Child true) w v = w / 65536 * 65536 + narrowed v
field_put (Child false) w v = w / 4294967296 * 4294967296 + narrowed v * 65536 + w % 65536
field_put Parent w v = narrowed v * 4294967296 + w % 4294967296

-- "unpacking": each whole six words become eight; up to five words that are left over stay
unfoldable pub unpack : (six : List ℕ) → List ℕ
unpack [] = []
unpack (a ∷ []) = a ∷ []
unpack (a ∷ b ∷ []) = a ∷ b ∷ []
unpack (a ∷ b ∷ c ∷ []) = a ∷ b ∷ c ∷ []
unpack (a ∷ b ∷ c ∷ d ∷ []) = a ∷ b ∷ c ∷ d ∷ []
unpack (a ∷ b ∷ c ∷ d ∷ e ∷ []) = a ∷ b ∷ c ∷ d ∷ e ∷ []
unpack (a ∷ b ∷ c ∷ d ∷ e ∷ w ∷ N) =
    a ∷ b ∷ c ∷ d ∷ e ∷ field_in (Child true) w ∷ field_in (Child false) w ∷ field_in Parent w ∷ unpack N

-- the eight-word form of a store's words: `narrow` says that its nodes have six words
unfoldable pub as_eight : (narrow : Bool) (words : List ℕ) → List ℕ
as_eight true N = unpack N
as_eight false W = W

-- A child link, and a parent link, that the layout can hold: any in eight words; in six a slot
-- below 65,535, or U, and for a parent also what top bits say.
unfoldable pub kid_fits : (narrow : Bool) (link : ℕ) → Bool
kid_fits narrow v = not narrow || (ltb v 65535 || eqb v U)

unfoldable pub up_fits_lem : (narrow : Bool) (link : ℕ) → Bool
up_fits_lem narrow v = not narrow || (ltb v 65535 || (leb U v && ltb v 8589869056))

abbrev pub field_fits : (narrow : Bool) (field : Field) (new : ℕ) → Bool
field_fits narrow Start v = true
field_fits narrow End v = true
field_fits narrow Value v = true
field_fits narrow HullStart v = true
field_fits narrow HullEnd v = true
field_fits narrow (Child b) v = kid_fits narrow v
field_fits narrow Parent v = up_fits_lem narrow v

-- how many words a node has
abbrev pub node_words_lem : (narrow : Bool) → ℕ
node_words_lem true = 6
node_words_lem false = 8

-- what six-word nodes spare: two words for each slot of the largest store
abbrev pub spared : (narrow : Bool) → ℕ
spared true = 131070
spared false = 0

-- The nodes of n slots have their words among so many. The number of words stands alone in each
-- part, so that the arithmetic is linear.
abbrev pub Held : (narrow : Bool) (count words : ℕ) → Type 0
Held narrow n words = (n ≤ 65535) × (n * 6 ≤ words) × (n * 8 ≤ words + spared narrow)

-- The words W hold the nodes of n slots, and that of slot s, in the layout.
abbrev pub HoldsIn : (narrow : Bool) (words : List ℕ) (count : ℕ) → Type 0
HoldsIn narrow W n = Held narrow n (length W)

abbrev pub HasIn : (narrow : Bool) (words : List ℕ) (slot : ℕ) → Type 0
HasIn narrow W s = HoldsIn narrow W (s + 1)

-- "Capacity there counts words div 6."
abbrev pub slots_as : (narrow : Bool) (words : ℕ) → ℕ
slots_as narrow words = cond narrow (words / 6) (words / 8)

abbrev pub capacity_as : (narrow : Bool) (words bytes : ℕ) → ℕ
capacity_as narrow words bytes = min (slots_as narrow words) (min (bits_of bytes) 65535)
