-- Document 02, item 7: "the number of entries holding an address and the value of the k-th in tree
-- order".
-- Letters: n count, a address, e entry, k index of the hit asked for, x seen so far, E entries (by
--   slot), L children (by side and slot), s slot, l slots
use Rattle.std.specs.Prelude.{Bool, true, false, cond, ◌&&◌, List, [], ◌∷◌, ℕ, zero, suc, ◌+◌, eqb, ltb, leb}
use Rattle.words.specs.Ix.{on_link}
use Rattle.words.specs.declared.node.Entry.{Entry}
use Rattle.image_rule.specs.declared.Seen.{Seen}

-- an entry holds the address a: it intersects the range from Included a to Included a
abbrev pub holds : (address : ℕ) (entry : Entry) → Bool
holds a e = ltb a e.end && leb e.start a

-- what was seen, and then the entry e. The value is kept of hit k, counted from 0.
abbrev pub noted : (address index : ℕ) (seen : Seen) (entry : Entry) → Seen
noted a k x e = cond (holds a e) (record { hits = x.hits + 1; value = cond (eqb x.hits k) e.value x.value }) x

-- the entries below a link in tree order, of the nodes whose entries E reads and whose children L
unfoldable pub sought : (entries : ℕ → Entry) (children : Bool → ℕ → ℕ)
    (count address index height link : ℕ) (seen : Seen) → Seen
sought E L n a k zero link x = x
sought E L n a k (suc height) link x =
    on_link n link (λ s. sought E L n a k height (L false s) (noted a k (sought E L n a k height (L true s) x) (E s))) x

-- the same over a list of slots
unfoldable pub noted_all : (entries : ℕ → Entry) (address index : ℕ) (slots : List ℕ) (seen : Seen)
    → Seen
noted_all E a k [] x = x
noted_all E a k (s ∷ l) x = noted_all E a k l (noted a k x (E s))
