use Rattle.kern_image.proofs.tables.place_tables.Goals as goal

pub returns : goal.returns
returns c = λ f r. c.put_table-3.ensures _ (c.put_table-2.ensures _ (c.put_table.ensures _ r))
