-- Document 01, "Cases": the lines that `slotrun` prints, as octets in ASCII. Assumes nothing.
use Rattle.std.specs.Prelude.{List, [], ◌∷◌, ◌++◌, ℕ, decimal}
use Rattle.hex.specs.Hex.{encode_lower}

-- the most octets of a line: "B", " 0", a space and the block's 68 digits, sixteen tags of six octets each at most, and the end
abbrev pub line_octets : ℕ
line_octets = 173

-- a field in decimal, after a space
abbrev pub number : ℕ → List ℕ
number n = 32 ∷ decimal n

-- "then tags in decimal"
unfoldable pub numbers : List ℕ → List ℕ
numbers [] = []
numbers (n ∷ ns) = number n ++ numbers ns

-- octets in hexadecimal, two digits each
abbrev pub hex : List ℕ → List ℕ
hex octets = encode_lower octets

-- "Fields: the command's letter, number (0 done)": a line of a letter and fields
abbrev pub line : ℕ → List ℕ → List ℕ
line letter fields = letter ∷ fields ++ 10 ∷ []
