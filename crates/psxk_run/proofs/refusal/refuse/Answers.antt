use Rattle.std.proofs.Common.{◌∙◌}
use Rattle.psxk_run.proofs.refusal.refuse.Goals as goal

pub returns-in-Program-clause-says : goal.returns-in-Program-clause-says
returns-in-Program-clause-says g c = rw c.in-Program.is (rw (← (c.as_slice.ensures.value ∙ c.exe_line.ensures)) c.say.ensures.says)

pub returns-in-Schedule-clause-says : goal.returns-in-Schedule-clause-says
returns-in-Schedule-clause-says g c = rw c.in-Schedule.is (rw (← (c.as_slice-in-Schedule.ensures.value ∙ c.schedule_line.ensures)) c.say-in-Schedule.ensures.says)

pub returns-in-Config-clause-says : goal.returns-in-Config-clause-says
returns-in-Config-clause-says g c = rw c.in-Config.is (rw (← (c.as_slice-in-Config.ensures.value ∙ c.config_line.ensures)) c.say-in-Config.ensures.says)

pub returns-in-Unread-clause-says : goal.returns-in-Unread-clause-says
returns-in-Unread-clause-says g c = rw c.in-Unread.is c.say_read.ensures.says

pub returns-in-Text-clause-says : goal.returns-in-Text-clause-says
returns-in-Text-clause-says g c = rw c.in-Text.is c.say_text.ensures.says
