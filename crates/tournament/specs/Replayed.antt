-- The tree while the matches above a place are played, whose entry has changed.
use Rattle.std.specs.Prelude.{◌≡◌, ◌<◌, ◌*◌, ◌/◌, ℕ, zero, suc, List, length, slice_index}
use Rattle.tournament.specs.declared.entry.Entry.{Entry}
use Rattle.tournament.specs.Tournament.{moment_at, IsWon, AllWon, AreOwn, AreWithin}

-- halved so many times
abbrev pub halves : ℕ → ℕ → ℕ
halves zero x = x
halves (suc k) x = halves k x / 2

-- a node stands on the way from another up to the root, or is that other itself
abbrev pub IsOnPathUp : ℕ → ℕ → Type 0
IsOnPathUp x j = (k : ℕ) × (halves k x ≡ j)

-- each node but this one and those above it has the place that comes first below it
abbrev pub WonBut : List Entry → List ℕ → ℕ → Type 0
WonBut leaves winners at = (j : ℕ) → 0 < j → 2 * j < length winners → (IsOnPathUp at j → ⊥) → IsWon leaves winners j

-- the matches below a node are played, and those above it are not; it has this place, which has this moment
pub record IsRisingMatch (leaves : List Entry) (winners : List ℕ) (at first due : ℕ) : Type 0 where
  pub size : length winners ≡ 2 * length leaves
  pub some : 0 < at
  pub inside : at < length winners
  pub within : AreWithin (length leaves) winners
  pub own : AreOwn (length leaves) winners
  pub won : WonBut leaves winners (at / 2)
  pub here : slice_index winners at ≡ first
  pub moment : due ≡ moment_at leaves first

-- all matches are played
pub record IsReplayed (leaves : List Entry) (winners : List ℕ) : Type 0 where
  pub within : AreWithin (length leaves) winners
  pub own : AreOwn (length leaves) winners
  pub won : AllWon leaves winners
