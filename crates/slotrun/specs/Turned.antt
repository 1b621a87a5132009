-- What a turn of the program leaves. Assumes nothing.
use Rattle.std.specs.Prelude.{◌≡◌, Bool, true, false, ◌&&◌, not, List, [], ◌∷◌, ◌++◌, ℕ, ◌≤◌, length, take}
use Rattle.bitbuffer.specs.Bits.{Wrote}
use Rattle.interpreter.specs.declared.session.Session.{Session}
use Rattle.interpreter.specs.Slotrun.{start}
use Rattle.interpreter.specs.Turns.{whole_commands, turns, begun, is_unknown}
use Rattle.slotrun.specs.declared.Program.{Program}

-- before the first turn no octet is held
pub record Begins (p : Program) : Type 0 where
  pub session : p.session ≡ start
  pub held : p.held ≡ 0

-- A turn of the program p has done the whole commands at the front of the octets, and leaves p'. What they print is at the front of `out`, and what
-- is left of the octets at the front of `input`. `more`: the read has brought octets; `on`: it reads on.
pub record Turned (p : Program) (octets : List ℕ) (more on : Bool) (p' : Program) : Type 0 where
  pub session-after : p'.session ≡ (whole_commands p.session octets).session
  -- how many octets are printed, and which
  pub count : ℕ
  pub printed : Wrote p.out 0 p'.out count (whole_commands p.session octets).printed
  pub left : take p'.held p'.input ≡ (whole_commands p.session octets).left
  pub inside : p'.held ≤ length p'.input
  -- "An unknown or cut command prints E and ends.": it reads on where the read has brought octets and no unknown command is next
  pub reads_on : on ≡ more && not (is_unknown (whole_commands p.session octets).left)

-- are there octets?
abbrev pub is_some : List ℕ → Bool
is_some [] = false
is_some (c ∷ l) = true

-- A turn with a read before it: the octets `next`, of which the contract of `read` says nothing, are put behind those that are held.
pub record ReadTurn (p : Program) (on : Bool) (p' : Program) : Type 0 where
  pub next : List ℕ
  pub turned : Turned p (take p.held p.input ++ next) (is_some next) on p'

-- Some parts lead there: over them, turn by turn from the start, the program comes to the session s with the octets `held` left.
pub record Reached (s : Session) (held : List ℕ) : Type 0 where
  pub parts : List (List ℕ)
  pub session-is : (turns begun parts).session ≡ s
  pub left_is : (turns begun parts).left ≡ held
