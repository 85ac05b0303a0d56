-- "A map is a count and a root by value", and by document 02, item 4: "The map record gains a
-- 32-bit version"
-- Letters: m map, v version
use Rattle.std.specs.Prelude.{ℕ, ◌+◌, ◌%◌}
use Rattle.words.specs.Ix.{U}
use Rattle.iset.specs.declared.Map.{Map}

abbrev pub map_at : (count root version : ℕ) → Map
map_at count root version = record { count = count; root = root; version = version }

-- for calls that do not look at the version
abbrev pub map_of : (count root : ℕ) → Map
map_of count root = map_at count root 0

-- no entries: count 0, root U
abbrev pub empty_map : Map
empty_map = map_of 0 U

-- the version goes "up by one at each build, removal and insertion; at its top it runs round to 0"
abbrev pub raised : (version : ℕ) → ℕ
raised v = (v + 1) % 4294967296

-- and by so many changes at once
abbrev pub raised_by : (version changes : ℕ) → ℕ
raised_by v changes = (v + changes) % 4294967296

-- what a change of the map m comes to
abbrev pub next_map : (map : Map) (count root : ℕ) → Map
next_map m count root = map_at count root (raised m.version)
