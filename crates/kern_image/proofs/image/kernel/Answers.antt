use Rattle.kern_image.proofs.RomLemmas.{kernel_block}
use Rattle.kern_image.proofs.image.kernel.Goals as goal

pub returns : goal.returns
returns c = kernel_block _ _ (c.place_vector.ensures _ (c.place_tables.ensures _ (c.place_code.ensures _ (c.place-8.ensures _ (c.place-7.ensures _ (c.place-6.ensures _ (c.place-5.ensures _ (c.place-4.ensures _ (c.place-3.ensures _ (c.place-2.ensures _ (c.place.ensures _ c.in_ok-block.ensures))))))))))) c.put_opening.ensures.opens c.put_opening.ensures.below
