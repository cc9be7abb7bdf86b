use Rattle.kern_event.proofs.C03SysDeqIntRp.{serves}
use Rattle.kern_event.proofs.c03_sys_deq_int_rp.sys_deq_int_rp.Goals as goal

pub returns-clause-serves : goal.returns-clause-serves
returns-clause-serves c = serves
