-- The status and the note of each way to end.
use Rattle.std.specs.Prelude.{ℕ, List, ◌++◌, codes, decimal, string_bytes, Option, None, Some}
use Rattle.net_machine.specs.declared.net.StepFault.{StepFault}
use Rattle.net_machine.specs.declared.net.StepFault.TheVariants.{NoMemory as step_NoMemory, CountFull as step_CountFull}
use Rattle.scenario_image.specs.Fault.{fault_name}
use Rattle.scenario_image.specs.declared.fault.LoadFault.{LoadFault}
use Rattle.scenario_image.specs.declared.fault.LoadFault.TheVariants.{NoMemory as image_NoMemory}
use Rattle.scenario_asm.specs.Faults.{code_of}
use Rattle.scenario_asm.specs.declared.fault.AsmFault.{AsmFault}
use Rattle.scenario_asm.specs.declared.fault.AsmFault.TheVariants.{At, NoMemory as text_NoMemory}
use Rattle.window_engine.specs.declared.fault.EngineFault.{EngineFault}
use Rattle.window_engine.specs.declared.fault.EngineFault.TheVariants.{NoMemory as engine_NoMemory, CountFull as engine_CountFull, NoWorker as engine_NoWorker, Sink, Failed}
use Rattle.debug_session.specs.declared.session.DialogueFault.{DialogueFault as CommandsFault}
use Rattle.debug_session.specs.declared.session.DialogueFault.TheVariants.{NoMemory as commands_NoMemory, OutputFailed}
use Rattle.sessions.specs.declared.fault.SessionFault.{SessionFault}
use Rattle.sessions.specs.declared.figures_fault.FiguresFault.TheVariants.{NoMoment, NoStep, TooManyRows}
use Rattle.sessions.specs.declared.fault.SessionFault.TheVariants.{TooLong, Refused, RefusedImage, CommandLine, NoSuchCode, WordsNotUtf8, Groups, Figures, ReadFailed, CannotRead, WriteFailed, NoMemory, CountFull, NoWorker}

-- input refused; command line refused; reading or writing failed; no room to go on
abbrev pub status_of : SessionFault → ℕ
status_of TooLong = 1
status_of (Refused line fault) = 1
status_of (RefusedImage fault) = 1
status_of (CommandLine error) = 2
status_of NoSuchCode = 2
status_of WordsNotUtf8 = 2
status_of Groups = 2
status_of (Figures fault) = 2
status_of ReadFailed = 3
status_of (CannotRead file) = 3
status_of WriteFailed = 3
status_of NoMemory = 4
status_of CountFull = 4
status_of NoWorker = 4

-- what stands on standard error, the text on the command line left open
abbrev pub note_of : SessionFault → Option (List ℕ)
note_of TooLong = Some (codes "refused I1\n")
note_of (Refused line fault) = Some (codes "refused " ++ code_of fault ++ codes " line " ++ decimal line ++ codes "\n")
note_of (RefusedImage fault) = Some (codes "refused " ++ fault_name fault ++ codes "\n")
note_of (CommandLine error) = None
note_of NoSuchCode = Some (codes "error: no such code; there are E1 to E10, L1 to L8, I1, B1 to B5, M and groups\n")
note_of WordsNotUtf8 = Some (codes "error: a word is not valid UTF-8\n")
note_of Groups = Some (codes "refused groups\n")
note_of (Figures NoMoment) = Some (codes "error: --from takes a moment, as 1.5s, 20ms or 10000ns\n")
note_of (Figures NoStep) = Some (codes "error: --every takes a time above 0, as 1.5s or 20ms, and --series wants --every\n")
note_of (Figures TooManyRows) = Some (codes "error: more than 10000000 rows; --every takes a longer step\n")
note_of ReadFailed = Some (codes "read failed\n")
note_of (CannotRead file) = Some (codes "cannot read " ++ string_bytes file ++ codes "\n")
note_of WriteFailed = Some (codes "write failed\n")
note_of NoMemory = Some (codes "no memory\n")
note_of CountFull = Some (codes "count full\n")
note_of NoWorker = Some (codes "no worker\n")

abbrev pub of_step : StepFault → SessionFault
of_step step_NoMemory = NoMemory
of_step step_CountFull = CountFull

abbrev pub of_engine : EngineFault → SessionFault
of_engine engine_NoMemory = NoMemory
of_engine engine_CountFull = CountFull
of_engine engine_NoWorker = NoWorker
of_engine (Sink written) = WriteFailed
of_engine Failed = NoWorker

abbrev pub of_commands : CommandsFault → SessionFault
of_commands commands_NoMemory = NoMemory
of_commands OutputFailed = WriteFailed

abbrev pub of_text : AsmFault → SessionFault
of_text (At line fault) = Refused line fault
of_text text_NoMemory = NoMemory

abbrev pub of_image : LoadFault → SessionFault
of_image image_NoMemory = NoMemory
of_image fault = RefusedImage fault
