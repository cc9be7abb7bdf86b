use Rattle.kern_event.proofs.C02SysEnqIntRp.{serves}
use Rattle.kern_event.proofs.c02_sys_enq_int_rp.sys_enq_int_rp.Goals as goal

pub returns-clause-serves : goal.returns-clause-serves
returns-clause-serves c = serves
