use Rattle.std.proofs.Common.{◌≡◌, drop}
use Rattle.kern_image.specs.Tables.{place_of, routine_of}
use Rattle.kern_image.specs.declared.places.TheConstants.{PLACES}
use Rattle.kern_image.proofs.tables.routine.Given as goal

abbrev pub invariant-loop-place : goal.invariant-loop-place
invariant-loop-place l = place_of (drop l.place-index PLACES) l.id ≡ routine_of l.id
