-- A delivery is asked for: the work area has the context that goes on, and a scan as its task.
use Rattle.std.proofs.Common.{◌≡◌, ℕ, ◌+◌, ◌%◌, ◌<◌, ◌≤◌, ◌⊎◌, inl, inr, [], ◌∷◌, true, refl, sym, ap, ◌∙◌, subst, arith, ⊎_elim}
use Rattle.std.specs.Prelude.{Option, Some, None, nat_eq, if◌then◌else◌}
use Rattle.psx_base.specs.Memory.{Memory, byte, word, put_word}
use Rattle.psx_base.specs.Context.{IsAtRest}
use Rattle.psx_base.specs.KernelState.{ThreadContext, Scan, KernelState}
use Rattle.psx_ram.specs.Apart.{apart}
use Rattle.psx_ram.proofs.Laws.{byte-put_word_apart}
use Rattle.psx_flow.specs.Run.{Run}
use Rattle.kern_layout.specs.Fields.{Block}
use Rattle.kern_layout.specs.Contexts.{saved}
use Rattle.kern_layout.specs.Tasks.{TasksAt}
use Rattle.kern_layout.specs.Valid.{NextFits, Valid}
use Rattle.kern_layout.proofs.Blocks.{block_same, put_other}
use Rattle.kern_layout.proofs.MemoryStored.{word_stored}
use Rattle.kern_layout.proofs.Written.{reads_free}
use Rattle.abs_kernel.specs.Stay.{Stay}
use Rattle.abs_kernel.specs.Tasks.{work}
use Rattle.abs_kernel.specs.Returning.{delivers}
use Rattle.abs_kernel.specs.WorkLaws.{IsNext, Working}
use Rattle.abs_kernel.proofs.Threaded.{valid_threaded}
use Rattle.kern_stay.specs.Doors.{Holds, Works}
use Rattle.kern_stay.proofs.Holding.{user_high}

apart_out : (p a : ℕ) → (a < p) ⊎ (p + 4 ≤ a) → apart p 4 a 1 ≡ true
apart_out p a h = grind arith

-- the work area alone is written
pub record AreaAlone (m n : Memory) : Type 0 where
  pub words : (a : ℕ) → a % 4 ≡ 0 → a < 0xEB00 → word n a ≡ word m a
  pub bytes : (a : ℕ) → (a < 0xEB00) ⊎ (0x10000 ≤ a) → byte n a ≡ byte m a

pub area_none : (m : Memory) → AreaAlone m m
area_none m = record { words = λ a al up. refl; bytes = λ a out. refl }

pub area_stored : (m n : Memory) (p v : ℕ) → p % 4 ≡ 0 → 0xEB00 ≤ p → p < 0x10000 → AreaAlone m n → AreaAlone m (put_word n p v)
area_stored m n p v al low high b = record {
  words = λ a ala up. word_stored n p v a al ala ∙ put_other (word n) p v a (λ e. omega (arith, e, up, low)) ∙ b.words a ala up;
  bytes = λ a out. byte-put_word_apart n p v a (apart_out p a (⊎_elim (λ l. inl (omega (arith, l, low))) (λ g. inr (omega (arith, g, high, al))) out)) ∙ b.bytes a out;
}

pub holds_area : (s : KernelState) → Valid s → (m n : Memory) → Holds s m → (c : ThreadContext) → c.context.pending ≡ None → AreaAlone m n → Block (word n) 0xEB00 (saved c) → Holds (record s { running = c }) n
holds_area s valid m n h c settled alone area =
    let r = reads_free s valid (word m) (word n) (byte m) (byte n) (λ a lo up. alone.bytes a (inl (omega (arith, up))))
    (λ a al lo up. alone.words a al (omega (arith, up, valid.frames_most))) (λ a al lo up. alone.words a al (omega (arith, up))) (λ a al lo up. alone.words a al up) h.reads in
    record {
      settled = settled;
      area = area;
      reads = record { threads = r.threads; events = r.events; frames = r.frames; chains = r.chains; heap = r.heap; files = r.files; line = r.line; variables = r.variables };
      user = λ a u. alone.bytes a (inr (user_high a u)) ∙ h.user a u;
    }

-- a valid state is one in which a delivery may be done
asked_working : (s : KernelState) → Valid s → (c : ThreadContext) → IsAtRest c.context → (class spec : ℕ) → Working s c (Scan class spec 0 ∷ [])
asked_working s v c rests class spec = record {
  valid = valid_threaded s s.threads s.current None v (record { count = refl; rest = v.threads; running = v.current; next = tt });
  next = next s.next v.next;
  context = rests;
  tasks = record { order = refl; after_scan = refl; elements = omega arith; lines = omega arith; each = (omega arith, tt) };
}
  where
    next : (o : Option ℕ) → NextFits s o → IsNext s o
    next None h = tt
    next (Some n) h = (h.0, h.1, h.2)

module _ (s : KernelState) (valid : Valid s) (m x : Memory) (h : Holds s m) (c : ThreadContext) (rests : IsAtRest c.context) (alone : AreaAlone m x) (area : Block (word x) 0xEB00 (saved c)) (class spec : ℕ) where
  -- the task is stored
  abbrev pub asked : Memory
  asked = put_word (put_word (put_word (put_word (put_word (put_word x 0xEB9C class) 0xEBA0 spec) 0xEBA4 0) 0xEB98 2) 0xEBA8 0) 0xEBAC 0

  abbrev x1 : Memory
  x1 = put_word x 0xEB9C class

  abbrev x2 : Memory
  x2 = put_word x1 0xEBA0 spec

  abbrev x3 : Memory
  x3 = put_word x2 0xEBA4 0

  abbrev x4 : Memory
  x4 = put_word x3 0xEB98 2

  abbrev x5 : Memory
  x5 = put_word x4 0xEBA8 0

  at : (a : ℕ) → a % 4 ≡ 0 → word asked a ≡ (if nat_eq a 0xEBAC then 0 else (if nat_eq a 0xEBA8 then 0 else (if nat_eq a 0xEB98 then 2 else (if nat_eq a 0xEBA4 then 0 else (if nat_eq a 0xEBA0 then spec else (if nat_eq a 0xEB9C then class else word x a))))))
  at a al =
      word_stored x5 0xEBAC 0 a refl al ∙ ap (λ v. if nat_eq a 0xEBAC then 0 else v) (word_stored x4 0xEBA8 0 a refl al ∙ ap (λ v. if nat_eq a 0xEBA8 then 0 else v) (word_stored x3 0xEB98 2 a refl al
      ∙ ap (λ v. if nat_eq a 0xEB98 then 2 else v) (word_stored x2 0xEBA4 0 a refl al ∙ ap (λ v. if nat_eq a 0xEBA4 then 0 else v) (word_stored x1 0xEBA0 spec a refl al ∙ ap (λ v. if nat_eq a 0xEBA0 then spec else v) (word_stored x 0xEB9C class a refl al)))))

  stays : (a : ℕ) → a % 4 ≡ 0 → a < 0xEB98 → word asked a ≡ word x a
  stays a al up =
      word_stored x5 0xEBAC 0 a refl al ∙ put_other (word x5) 0xEBAC 0 a (λ e. omega (arith, e, up)) ∙ word_stored x4 0xEBA8 0 a refl al ∙ put_other (word x4) 0xEBA8 0 a (λ e. omega (arith, e, up))
      ∙ word_stored x3 0xEB98 2 a refl al ∙ put_other (word x3) 0xEB98 2 a (λ e. omega (arith, e, up)) ∙ word_stored x2 0xEBA4 0 a refl al ∙ put_other (word x2) 0xEBA4 0 a (λ e. omega (arith, e, up))
      ∙ word_stored x1 0xEBA0 spec a refl al ∙ put_other (word x1) 0xEBA0 spec a (λ e. omega (arith, e, up)) ∙ word_stored x 0xEB9C class a refl al ∙ put_other (word x) 0xEB9C class a (λ e. omega (arith, e, up))

  all_alone : AreaAlone m asked
  all_alone =
      area_stored m x5 0xEBAC 0 refl (omega arith) (omega arith) (area_stored m x4 0xEBA8 0 refl (omega arith) (omega arith) (area_stored m x3 0xEB98 2 refl (omega arith) (omega arith)
      (area_stored m x2 0xEBA4 0 refl (omega arith) (omega arith) (area_stored m x1 0xEBA0 spec refl (omega arith) (omega arith) (area_stored m x 0xEB9C class refl (omega arith) (omega arith) alone)))))

  -- at WORK
  pub asks : (stay : Stay) (e : Run) → stay ≡ delivers s c class spec e.regs.r31 → e.regs.r2 ≡ 0 → e.bytes ≡ asked → Works stay e
  asks stay e is r2 bytes = record {
    state = s;
    context = c;
    tasks = Scan class spec 0 ∷ [];
    is = is ∙ ap (λ v. work s c (Scan class spec 0 ∷ []) v e.regs.r31) (sym r2);
    working = asked_working s valid c rests class spec;
    holds = subst (λ b. Holds (record s { running = c }) b) (sym bytes) (holds_area s valid m asked h c rests.none_pending all_alone (block_same (word x) (word asked) 0xEB00 0 0x98 (saved c) refl refl (λ a al lo up. stays a al up) area));
    there = subst (λ b. TasksAt (word b) 0xEB00 (Scan class spec 0 ∷ [])) (sym bytes) (record {
      first = (at 0xEB98 refl, (at 0xEB9C refl, (at 0xEBA0 refl, (at 0xEBA4 refl, tt))));
      counts = (at 0xEBA8 refl, (at 0xEBAC refl, tt));
      lines = tt;
      elements = tt;
    });
  }
