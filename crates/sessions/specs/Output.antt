-- What a subcommand writes.
use Rattle.std.specs.Prelude.{◌≡◌, ◌⊎◌, ℕ, List, [], Ok, Err}
use Rattle.scenario_image.specs.Image.{image}
use Rattle.scenario_image.specs.declared.parts.ScenarioParts.{ScenarioParts}
use Rattle.scenario_image.specs.declared.version.Version.TheVariants.{Two}
use Rattle.scenario_asm.specs.CanonicalText.{canonical_text}
use Rattle.table_run.specs.State.{initial}
use Rattle.sessions.specs.declared.fault.SessionFault.TheVariants.{WriteFailed, NoMemory, Groups}
use Rattle.command_line.specs.declared.subcommand.Subcommand.{Subcommand}
use Rattle.command_line.specs.declared.subcommand.Subcommand.TheVariants.{Asm, Dis, Run, Figures}
use Rattle.sessions.specs.Written.{IsBeginningOf}
use Rattle.sessions.specs.Ended.{SessionEnded, IsRunOutput}
use Rattle.sessions.specs.FiguresOutput.{IsFiguresOutput}
use Rattle.sessions.specs.Nodes.{HasGroups}

-- what was written of bytes that go out together, by the end: all; nothing where memory was refused; a beginning where the writer failed
abbrev pub IsAllOrNothing : List ℕ → SessionEnded → List ℕ → Type 0
IsAllOrNothing bytes (Ok done) out = out ≡ bytes
IsAllOrNothing bytes (Err NoMemory) out = out ≡ []
IsAllOrNothing bytes (Err WriteFailed) out = IsBeginningOf (λ all. all ≡ bytes) out
IsAllOrNothing bytes _ out = ⊥

-- what a run by groups that ended so has written of a scenario: nothing where the text names no groups for its nodes; else what a run has, whatever the groups are
abbrev pub IsSharedOutput : List ℕ → ScenarioParts → SessionEnded → List ℕ → Type 0
IsSharedOutput groups parts (Err Groups) out = ¬ HasGroups groups parts × (out ≡ [])
IsSharedOutput groups parts (Err NoMemory) out = (out ≡ []) ⊎ (HasGroups groups parts × IsRunOutput (initial parts) (Err NoMemory) out)
IsSharedOutput groups parts ended out = HasGroups groups parts × IsRunOutput (initial parts) ended out

-- what a subcommand that ended so has written of an input's scenario: the image of version 2, the canonical text, the trace of its run, or the figures of its run that are asked for
abbrev pub IsOutput : Subcommand → List ℕ → ScenarioParts → SessionEnded → List ℕ → Type 0
IsOutput Asm input parts ended out = IsAllOrNothing (image Two parts) ended out
IsOutput Dis input parts ended out = IsAllOrNothing (canonical_text parts) ended out
IsOutput (Run sharing) input parts ended out = IsSharedOutput sharing.groups parts ended out
IsOutput (Figures counting) input parts ended out = IsFiguresOutput counting input parts ended out
