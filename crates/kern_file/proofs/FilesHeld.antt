-- The files and the last error in memory, while the kernel runs.
use Rattle.std.proofs.Common.{◌≡◌, ℕ, ◌+◌, ◌*◌, ◌%◌, ◌^◌, ◌<◌, ◌≤◌, [], ◌∷◌, inl, true, false, refl, sym, ap, ◌∙◌, subst, arith}
use Rattle.std.specs.Prelude.{Option, Some, None, nat_le, nat_lt, is_some, slice_set}
use Rattle.std.proofs.lemmas.Bool.{le-leb}
use Rattle.std.proofs.lemmas.List.{get_or_past}
use Rattle.psx_base.specs.Memory.{Memory, byte, word, put_word}
use Rattle.psx_base.specs.Addresses.{place}
use Rattle.psx_base.specs.KernelState.{KernelState}
use Rattle.psx_ram.specs.Apart.{apart}
use Rattle.psx_ram.proofs.Laws.{byte-put_word_apart}
use Rattle.psx_cpu.specs.Words.{truth}
use Rattle.psx_flow.specs.Run.{Run}
use Rattle.psx_flow.proofs.Log.{Kernel, word_sort}
use Rattle.kern_layout.specs.Fields.{Block}
use Rattle.kern_layout.specs.Contexts.{saved}
use Rattle.kern_layout.specs.Stores.{put}
use Rattle.kern_layout.specs.Reads.{file_at, file_fields}
use Rattle.kern_layout.specs.Valid.{FileFits, Valid}
use Rattle.kern_layout.proofs.Blocks.{block_same, put_other}
use Rattle.kern_layout.proofs.MemoryStored.{word_stored, line_kept}
use Rattle.kern_layout.proofs.Stored.{file_stored}
use Rattle.kern_layout.proofs.Written.{reads_free}
use Rattle.abs_kernel.specs.Stay.{Stay}
use Rattle.abs_kernel.specs.Files.{file, is_writable, with_file, with_errno}
use Rattle.abs_kernel.proofs.Filed.{files_same, files_set, valid_filed}
use Rattle.kern_stay.specs.Doors.{Holds, Through}
use Rattle.kern_stay.proofs.RoomGiven.{true_then, false_then}
use Rattle.kern_stay.proofs.Copying.{data_place, data_sort}
use Rattle.kern_stay.proofs.Holding.{user_high, holds_variable}

-- ---- a file's word

-- where it stands, as the listings compute it
pub record At (f : ℕ) : Type 0 where
  pub here : ((f * 2 ^ 2 % 2 ^ 32 + 0x80010000) % 2 ^ 32 + 0xFFFFE800) % 2 ^ 32 ≡ 0x80000000 + file_at f
  pub sort : word_sort (0x80000000 + file_at f) ≡ Kernel
  pub place : place (0x80000000 + file_at f) ≡ file_at f

pub at_file : (f : ℕ) → f < 16 → At f
at_file f lt = record { here = omega arith; sort = data_sort (file_at f) (omega arith) (omega arith) (omega arith); place = data_place (file_at f) (omega arith) }

-- the mode there, 0 of a closed one
abbrev pub mode_of : Option ℕ → ℕ
mode_of None = 0
mode_of (Some mode) = mode

block_mode : (w : ℕ → ℕ) (at n : ℕ) (f : Option ℕ) → Block w at (file_fields n f) → w at ≡ mode_of f
block_mode w at n None b = let z : at + 0 ≡ at = omega arith in sym (ap w z) ∙ b.0
block_mode w at n (Some mode) b = let z : at + 0 ≡ at = omega arith in sym (ap w z) ∙ b.0

pub mode_is : (s : KernelState) → Valid s → (m : Memory) → Holds s m → (f : ℕ) → f < 16 → word m (file_at f) ≡ mode_of (file s f)
mode_is s valid m h f lt = block_mode (word m) (file_at f) f (file s f) (h.reads.files f (omega (arith, lt, valid.files_count)))

pub none_from_16 : (s : KernelState) → Valid s → (f : ℕ) → 16 ≤ f → file s f ≡ None
none_from_16 s valid f le = get_or_past s.files f None (omega (arith, le, valid.files_count))

-- a file that is open has a mode above 0, and one that is open for writing 2 or 3
pub mode_fits : (s : KernelState) → Valid s → (f : ℕ) → f < 16 → FileFits (file s f)
mode_fits s valid f lt = valid.files f None (omega (arith, lt, valid.files_count))

pub is_closed : (f : Option ℕ) → FileFits f → mode_of f ≡ 0 → f ≡ None
is_closed None fit e = refl
is_closed (Some mode) fit e = absurd (omega (arith, fit.0, e))

pub is_open : (f : Option ℕ) → (mode_of f ≡ 0 → ⊥) → is_some f ≡ true
is_open None ne = absurd (ne refl)
is_open (Some mode) ne = refl

pub writable : (f : Option ℕ) → truth (nat_lt (mode_of f) 2) ≡ 0 → is_writable f ≡ true
writable None h = absurd (let e : 1 ≡ 0 = h in omega (arith, e))
writable (Some mode) h = le-leb 2 mode (false_then mode 2 h)

few_modes : (mode : ℕ) → mode < 2 → nat_le 2 mode ≡ false
few_modes mode h = grind arith

pub unwritable : (f : Option ℕ) → (truth (nat_lt (mode_of f) 2) ≡ 0 → ⊥) → is_writable f ≡ false
unwritable None h = refl
unwritable (Some mode) h = few_modes mode (true_then mode 2 h)

-- ---- stores

pub holds_errno : (s : KernelState) → Valid s → (m : Memory) → Holds s m → (error : ℕ) → Holds (with_errno s error) (put_word m 0xEA1C error)
holds_errno s valid m h error = holds_variable s valid m h 0x1C error s.next s.random s.token error s.heap.base (valid_filed s s.files error valid (files_same s.files)) refl (omega arith) refl

apart_above : (p n a : ℕ) → p + n ≤ a → apart p n a 1 ≡ true
apart_above p n a h = grind arith

pub holds_file : (s : KernelState) → Valid s → (m : Memory) → Holds s m → (n v : ℕ) (f : Option ℕ) → n < 16 → FileFits f → file_fields n f ≡ (0, v) ∷ []
    → Holds (with_file s n f) (put_word m (file_at n) v)
holds_file s valid m h n v f lt fit is =
    let p : ℕ = file_at n in
    let x : Memory = put_word m p v in
    let t : KernelState = with_file s n f in
    let valid_t : Valid t = valid_filed s (slice_set s.files n f) s.errno valid (files_set s.files n f fit) in
    let line = line_kept m p v (inl (omega (arith, lt))) in
    let stored : (a : ℕ) → a % 4 ≡ 0 → word x a ≡ put (word m) p v a = λ a al. word_stored m p v a (omega arith) al in
    let r = file_stored s valid (word m) (byte m) (byte x) line n v f lt is h.reads in
    record {
      settled = h.settled;
      area = block_same (word m) (word x) 0xEB00 0 0x98 (saved s.running) refl refl (λ a al lo up. stored a al ∙ put_other (word m) p v a (λ e. omega (arith, e, lo, lt))) h.area;
      reads = reads_free t valid_t (put (word m) p v) (word x) (byte x) (byte x) (λ a lo up. refl) (λ a al lo up. stored a al) (λ a al lo up. stored a al) (λ a al lo up. stored a al) r;
      user = λ a u. (let high = user_high a u in byte-put_word_apart m p v a (apart_above p 4 a (omega (arith, high, lt)))) ∙ h.user a u;
    }
