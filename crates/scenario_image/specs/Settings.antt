-- What a flow's sender is told.
use Rattle.sim_time.specs.declared.settings.SenderSettings.{SenderSettings}
use Rattle.scenario_image.specs.declared.parts.FlowPart.{FlowPart}

abbrev pub sender_settings : FlowPart → SenderSettings
sender_settings flow = record { mss = flow.mss; segments = flow.segments; rwnd = flow.rwnd; variant = flow.variant }
