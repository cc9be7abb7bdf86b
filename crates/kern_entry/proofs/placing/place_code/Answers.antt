use Rattle.kern_entry.proofs.placing.place_code.Goals as goal

pub returns : goal.returns
returns c = λ f r. c.place_entry.ensures _ (c.place_leave.ensures _ (c.place_copies.ensures _ (c.place_routines.ensures _ (c.place_work.ensures _ (c.place_frames.ensures _ (c.place_tested.ensures _ r))))))
