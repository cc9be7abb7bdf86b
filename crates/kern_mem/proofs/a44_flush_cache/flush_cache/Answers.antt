use Rattle.kern_mem.proofs.A44FlushCache.{serves}
use Rattle.kern_mem.proofs.a44_flush_cache.flush_cache.Goals as goal

pub returns-clause-serves : goal.returns-clause-serves
returns-clause-serves c = serves
