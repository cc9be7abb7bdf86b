use Rattle.kern_image.specs.Rom.{rom}
use Rattle.kern_image.proofs.ServesEvery.{serves}
use Rattle.kern_image.proofs.serving.serving.Goals as goal

pub returns-clause-serves : goal.returns-clause-serves
returns-clause-serves c = serves c.rom_bytes.ensures.bytes c.gates.ensures c.boots.ensures c.stays.ensures c.interrupts.ensures

pub returns-clause-runs : goal.returns-clause-runs
returns-clause-runs c = c.every_run.ensures.runs rom (returns-clause-serves c)

pub returns-clause-in_time : goal.returns-clause-in_time
returns-clause-in_time c = c.every_run.ensures.in_time rom (returns-clause-serves c)
