-- By the theorem over trees, with goals that every state meets.
use Rattle.std.proofs.Common.{refl}
use Rattle.psx_flow.specs.Runs.{any}
use Rattle.psx_flow.proofs.Exact.{run_exactly}
use Rattle.psx_flow.proofs.law.words_run.Goals as goal

pub returns : goal.returns
returns a = λ kept ls T at s given ends bus few c.
    let q = run_exactly kept any (λ i c e. refl) ls T at (λ _. Unit {0}) (λ _ _. Unit {0}) s bus few s.bytes given.calls c given.placed (record { bytes = λ x e. refl; masked = given.masked }) ends in
    record { count = q.count; after = q.after; to = q.to; run = q.run; exact = q.exact; bound = q.bound; keeps = q.keeps; holds = q.holds.1 }
