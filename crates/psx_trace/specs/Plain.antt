-- The items of the code as plain data.
use Rattle.std.specs.Prelude.{ℕ, List, slice_index}
use Rattle.psx_base.specs.Items.{Item, Entrance, ByA, ByB, ByC, BySyscall, ByInterrupt, ByDone, ByBack, ByTrap, B, E, R, W, X, S}
use Rattle.psx_base.specs.Registers.{Registers}
use Rattle.psx_trace.specs.declared.item.Item.{Item as CodeItem}
use Rattle.psx_trace.specs.declared.item.Item.TheVariants.{B as b, E as e, R as r, W as w, X as x, S as s}
use Rattle.psx_trace.specs.declared.item.Entered.{Entered}
use Rattle.psx_trace.specs.declared.item.Entered.TheVariants.{A, B as TableB, C, Sys, Interrupt, Done, Back, Trap}

-- by what the kernel was entered
abbrev pub entrance_of : Entered → Entrance
entrance_of A = ByA
entrance_of TableB = ByB
entrance_of C = ByC
entrance_of Sys = BySyscall
entrance_of Interrupt = ByInterrupt
entrance_of Done = ByDone
entrance_of Back = ByBack
entrance_of Trap = ByTrap

-- the registers whose list is r1 to r31
abbrev pub registers_of : List ℕ → ℕ → ℕ → Registers
registers_of rs hi lo = record {
  r1 = slice_index rs 0;
  r2 = slice_index rs 1;
  r3 = slice_index rs 2;
  r4 = slice_index rs 3;
  r5 = slice_index rs 4;
  r6 = slice_index rs 5;
  r7 = slice_index rs 6;
  r8 = slice_index rs 7;
  r9 = slice_index rs 8;
  r10 = slice_index rs 9;
  r11 = slice_index rs 10;
  r12 = slice_index rs 11;
  r13 = slice_index rs 12;
  r14 = slice_index rs 13;
  r15 = slice_index rs 14;
  r16 = slice_index rs 15;
  r17 = slice_index rs 16;
  r18 = slice_index rs 17;
  r19 = slice_index rs 18;
  r20 = slice_index rs 19;
  r21 = slice_index rs 20;
  r22 = slice_index rs 21;
  r23 = slice_index rs 22;
  r24 = slice_index rs 23;
  r25 = slice_index rs 24;
  r26 = slice_index rs 25;
  r27 = slice_index rs 26;
  r28 = slice_index rs 27;
  r29 = slice_index rs 28;
  r30 = slice_index rs 29;
  r31 = slice_index rs 30;
  hi = hi;
  lo = lo;
}

-- an item as plain data
abbrev pub item_of : CodeItem → Item
item_of (b count) = B count
item_of (e count cause epc gate number) = E count cause epc (entrance_of gate) number
item_of (r count at value) = R count at value
item_of (w count at value) = W count at value
item_of (x count pc sr hi lo regs) = X count pc sr (registers_of regs.0 hi lo)
item_of (s count stop) = S count stop
