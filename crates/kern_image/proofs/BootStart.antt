-- The board's memory at reset, with a program placed in it: the program is the user's memory as it begins, and the ROM stands at its place.
use Rattle.std.proofs.Common.{◌≡◌, ℕ, suc, ◌+◌, ◌-◌, ◌%◌, ◌^◌, Bool, true, false, cond, eqb, None, Some, List, [], ◌∷◌, length, replicate, unwrap_or, refl, ap, sym, ◌∙◌, arith}
use Rattle.std.specs.Prelude.{◌||◌, nat_le, slice_index, if◌then◌else◌}
use Rattle.std.specs.Ordering.{nat_cmp}
use Rattle.std.specs.FinMap as map
use Rattle.std.proofs.lemmas.List.{length-replicate}
use Rattle.psx_base.specs.Addresses.{place, user, user_main, scratchpad}
use Rattle.psx_base.specs.FirstBad.{first_bad_of}
use Rattle.psx_base.specs.Memory.{Memory, no_bytes, byte, put_byte}
use Rattle.psx_ram.specs.Parts.{reset_memory}
use Rattle.psx_ram.proofs.Laws.{byte-put_byte, byte-put_byte_apart}
use Rattle.psx_ram.proofs.Reset.{byte-reset_memory}
use Rattle.psx_exe.specs.Placed.{written_from, placed}
use Rattle.psx_exe.specs.Reading.{IsReadable}
use Rattle.psx_exe.proofs.Placing.{safe}
use Rattle.kern_layout.specs.Stands.{SameUser}
use Rattle.abs_run.proofs.UserMemory.{user-shared}
use Rattle.kern_image.proofs.BootWalk.{Setting, Base}

-- the same bytes put in two memories
written-same : (xs : List ℕ) (a : ℕ) (m n : Memory) → SameUser m n → SameUser (written_from m a xs) (written_from n a xs)
unfolding written_from
written-same [] a m n h = h
written-same (x ∷ xs) a m n h =
    written-same xs ((a + 1) % 2 ^ 32) (put_byte m (place a) x) (put_byte n (place a) x)
    (λ q u. byte-put_byte m (place a) x q ∙ ap (cond (eqb q (place a)) x) (h q u) ∙ sym (byte-put_byte n (place a) x q))

first_user : (a n : ℕ) → first_bad_of a (suc n) ≡ None → (user a ≡ true) × (first_bad_of ((a + 1) % 2 ^ 32) n ≡ None)
first_user a n none = go (user a) none
  where
    go : (b : Bool) → (if b then first_bad_of ((a + 1) % 2 ^ 32) n else Some a) ≡ None → (b ≡ true) × (first_bad_of ((a + 1) % 2 ^ 32) n ≡ None)
    go true h = (refl, h)
    go false h = absurd cc

not_rom : (p i : ℕ) → (user_main p || scratchpad p) ≡ true → 0x1FC00000 + i ≡ p → ⊥
not_rom p i h e = absurd (grind arith)

-- bytes put in user memory alone leave the ROM
written-rom : (xs : List ℕ) (a : ℕ) (m : Memory) (i : ℕ) → first_bad_of a (length xs) ≡ None → byte (written_from m a xs) (0x1FC00000 + i) ≡ byte m (0x1FC00000 + i)
unfolding written_from
written-rom [] a m i none = refl
written-rom (x ∷ xs) a m i none =
    let u = first_user a (length xs) none in
    written-rom xs ((a + 1) % 2 ^ 32) (put_byte m (place a) x) i u.1 ∙ byte-put_byte_apart m (place a) x (0x1FC00000 + i) (not_rom (place a) i (user-shared a u.0))

byte-none : (q : ℕ) → byte no_bytes q ≡ 0
unfolding byte
byte-none q = ap (λ o. unwrap_or o 0) (map.get-empty nat_cmp q)

below_rom : (q : ℕ) → (user_main q || scratchpad q) ≡ true → nat_le 0x1FC00000 q ≡ false
below_rom q h = grind arith

from_rom : (i : ℕ) → nat_le 0x1FC00000 (0x1FC00000 + i) ≡ true
from_rom i = grind arith

reset-same : (rom : List ℕ) → SameUser (reset_memory rom) no_bytes
reset-same rom q h = byte-reset_memory rom q ∙ ap (λ b. if b then slice_index rom (q - 0x1FC00000) else 0) (below_rom q h) ∙ sym (byte-none q)

reset-rom : (rom : List ℕ) (i : ℕ) → byte (reset_memory rom) (0x1FC00000 + i) ≡ slice_index rom i
reset-rom rom i =
    byte-reset_memory rom (0x1FC00000 + i)
    ∙ ap (λ b. if b then slice_index rom (0x1FC00000 + i - 0x1FC00000) else 0) (from_rom i)
    ∙ ap (slice_index rom) {x = 0x1FC00000 + i - 0x1FC00000} {y = i} (omega arith)

pub starts : (g : Setting) → IsReadable g.exe → Base g (placed (reset_memory g.rom) g.exe)
unfolding placed
starts g r =
    let s = safe g.exe r in
    let fill : first_bad_of g.exe.fill_start (length (replicate g.exe.fill_size 0)) ≡ None = rw length-replicate s.fill in
    let m = written_from (reset_memory g.rom) g.exe.dest g.exe.text in
    record {
      user = written-same (replicate g.exe.fill_size 0) g.exe.fill_start m (written_from no_bytes g.exe.dest g.exe.text) (written-same g.exe.text g.exe.dest (reset_memory g.rom) no_bytes (reset-same g.rom));
      rom = λ i. written-rom (replicate g.exe.fill_size 0) g.exe.fill_start m i fill ∙ written-rom g.exe.text g.exe.dest (reset_memory g.rom) i s.text ∙ reset-rom g.rom i;
    }
