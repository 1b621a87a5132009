-- Words at the front of others. Assumes nothing.
use Rattle.std.specs.Prelude.{ℕ, Bool, true, false, ◌&&◌, List, [], ◌∷◌, ◌==◌}

-- the first words of ws are vs
unfoldable pub begins : List ℕ → List ℕ → Bool
begins [] ws = true
begins (v ∷ vs) [] = false
begins (v ∷ vs) (w ∷ ws) = v == w && begins vs ws
