-- Tasks by their parts, and how the work area has them.
use Rattle.std.proofs.Common.{◌≡◌, ℕ, zero, suc, ◌≤◌, List, [], ◌∷◌, ◌++◌, length, refl, sym, ap, ◌∙◌, subst, arith}
use Rattle.std.specs.Prelude.{map}
use Rattle.psx_base.specs.KernelState.{Task, Element, Second, Line, Scan}
use Rattle.kern_layout.specs.Fields.{Block, Stack}
use Rattle.kern_layout.specs.Stores.{Same}
use Rattle.kern_layout.specs.Tasks.{elements_of, lines_of, under_way_fields, TasksAt}
use Rattle.kern_layout.specs.Valid.{TasksFit}
use Rattle.kern_layout.proofs.Blocks.{stack_same}
use Rattle.abs_kernel.specs.Stay.{Stay, Touch}

-- ---- elements and lines alone

abbrev pub plain : (es ls : List ℕ) → List Task
plain es ls = map Element es ++ map Line ls

pub elements_plain : (es ls : List ℕ) → elements_of (plain es ls) ≡ es
elements_plain [] [] = refl
elements_plain [] (l ∷ ls) = elements_plain [] ls
elements_plain (e ∷ es) ls = ap (λ xs. e ∷ xs) (elements_plain es ls)

pub lines_plain : (es ls : List ℕ) → lines_of (plain es ls) ≡ ls
lines_plain [] [] = refl
lines_plain [] (l ∷ ls) = ap (λ xs. l ∷ xs) (lines_plain [] ls)
lines_plain (e ∷ es) ls = lines_plain es ls

pub none_under_way : (es ls : List ℕ) → under_way_fields (plain es ls) ≡ (0x98, 0) ∷ []
none_under_way [] [] = refl
none_under_way [] (l ∷ ls) = refl
none_under_way (e ∷ es) ls = refl

-- ---- all tasks: these, behind a second function or not, and lines behind a scan

pub data Form (ts : List Task) : Type 0 where
  IsPlain : (es ls : List ℕ) → ts ≡ plain es ls → Form ts
  IsSecond : (e : ℕ) (es ls : List ℕ) → ts ≡ Second e ∷ plain es ls → Form ts
  IsScan : (class spec i : ℕ) (ls : List ℕ) → ts ≡ Scan class spec i ∷ plain [] ls → Form ts

pub form : (events : ℕ) (ts : List Task) → TasksFit events ts → Form ts
form events [] f = IsPlain [] [] refl
form events (Element e ∷ ts) f = IsPlain (e ∷ elements_of ts) (lines_of ts) f.order
form events (Second e ∷ ts) f = IsSecond e (elements_of ts) (lines_of ts) f.order
form events (Line n ∷ ts) f = IsPlain (elements_of ts) (n ∷ lines_of ts) f.order
form events (Scan class spec i ∷ ts) f = IsScan class spec i (lines_of ts) (f.order ∙ ap (λ es. Scan class spec i ∷ plain es (lines_of ts)) f.after_scan)

-- ---- the parts in the work area, but for the task under way

pub record Parts (w : ℕ → ℕ) (es ls : List ℕ) : Type 0 where
  pub element_count : w 0xEBA8 ≡ length es
  pub line_count : w 0xEBAC ≡ length ls
  pub lines : Stack w 0xEBB0 ls
  pub elements : Stack w 0xEC00 es

pub parts_of : (w : ℕ → ℕ) (ts : List Task) (es ls : List ℕ) → elements_of ts ≡ es → lines_of ts ≡ ls → TasksAt w 0xEB00 ts → Parts w es ls
parts_of w ts es ls e l h = record {
  element_count = h.counts.0 ∙ ap length e;
  line_count = h.counts.1.0 ∙ ap length l;
  lines = subst (Stack w 0xEBB0) l h.lines;
  elements = subst (Stack w 0xEC00) e h.elements;
}

pub tasks_at : (w : ℕ → ℕ) (ts : List Task) (es ls : List ℕ) → elements_of ts ≡ es → lines_of ts ≡ ls → Block w 0xEB00 (under_way_fields ts) → Parts w es ls → TasksAt w 0xEB00 ts
tasks_at w ts es ls e l b p = record {
  first = b;
  counts = (p.element_count ∙ sym (ap length e), (p.line_count ∙ sym (ap length l), tt));
  lines = subst (Stack w 0xEBB0) (sym l) p.lines;
  elements = subst (Stack w 0xEC00) (sym e) p.elements;
}

pub parts_same : (w x : ℕ → ℕ) (es ls : List ℕ) → length es ≤ 32 → length ls ≤ 4 → Same 0xEBA8 0xEC80 w x → Parts w es ls → Parts x es ls
parts_same w x es ls few four s p = record {
  element_count = s 0xEBA8 refl (omega arith) (omega arith) ∙ p.element_count;
  line_count = s 0xEBAC refl (omega arith) (omega arith) ∙ p.line_count;
  lines = stack_same w x 0xEBB0 0xEBC0 ls refl (omega (arith, four)) (λ a al lo up. s a al (omega (arith, lo)) (omega (arith, up))) p.lines;
  elements = stack_same w x 0xEC00 0xEC80 es refl (omega (arith, few)) (λ a al lo up. s a al (omega (arith, lo)) up) p.elements;
}

-- the first element, or line, is taken: one less is counted
pub element_less : (w x : ℕ → ℕ) (e : ℕ) (es ls : List ℕ) → length es ≤ 32 → length ls ≤ 4 → x 0xEBA8 ≡ length es → Same 0xEBAC 0xEC80 w x → Parts w (e ∷ es) ls → Parts x es ls
element_less w x e es ls few four count s p = record {
  element_count = count;
  line_count = s 0xEBAC refl (omega arith) (omega arith) ∙ p.line_count;
  lines = stack_same w x 0xEBB0 0xEBC0 ls refl (omega (arith, four)) (λ a al lo up. s a al (omega (arith, lo)) (omega (arith, up))) p.lines;
  elements = stack_same w x 0xEC00 0xEC80 es refl (omega (arith, few)) (λ a al lo up. s a al (omega (arith, lo)) up) p.elements.1;
}

pub line_less : (w x : ℕ → ℕ) (l : ℕ) (es ls : List ℕ) → length es ≤ 32 → length ls ≤ 4 → x 0xEBAC ≡ length ls → x 0xEBA8 ≡ w 0xEBA8 → Same 0xEBB0 0xEC80 w x → Parts w es (l ∷ ls) → Parts x es ls
line_less w x l es ls few four count same s p = record {
  element_count = same ∙ p.element_count;
  line_count = count;
  lines = stack_same w x 0xEBB0 0xEBC0 ls refl (omega (arith, four)) (λ a al lo up. s a al lo (omega (arith, up))) p.lines.1;
  elements = stack_same w x 0xEC00 0xEC80 es refl (omega (arith, few)) (λ a al lo up. s a al (omega (arith, lo)) up) p.elements;
}

-- ---- a stay behind so many words that it touches

abbrev pub touched : ℕ → Stay → Stay
touched zero rest = rest
touched (suc n) rest = Touch 4 (touched n rest)

pub touched_more : (n : ℕ) (rest : Stay) → touched n (Touch 4 rest) ≡ touched (suc n) rest
touched_more zero rest = refl
touched_more (suc n) rest = ap (Touch 4) (touched_more n rest)
