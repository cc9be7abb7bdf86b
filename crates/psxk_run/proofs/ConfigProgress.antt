-- The lines of a configuration text, as far as they are read.
use Rattle.std.proofs.Common.{◌≡◌, ℕ, ◌+◌, ◌<◌, ◌≤◌, false, List, [], ◌∷◌, ◌++◌, All, length, drop, take, map, None, Err, refl, sym, ap, subst, ◌∙◌, inl, inr, ⊎_elim, append_assoc, length-append, length-drop, eqb, not, arith}
use Rattle.std.specs.List.{AllZip, position_or_len}
use Rattle.std.specs.Option.{unwrap_or}
use Rattle.std.specs.Str.Lines.{strip_carriage_return}
use Rattle.std.proofs.lemmas.Bool.{cases_lt, not-true}
use Rattle.std.proofs.lemmas.List.{take_all}
use Rattle.std.proofs.lemmas.List.Splits.{slice_split_none, slice_split_first}
use Rattle.std.proofs.lemmas.List.Sums.{prefix_len_passes, prefix_len-le-length}
use Rattle.std.proofs.lemmas.Option.{unwrap_or-slice_get}
use Rattle.psxk_run.specs.declared.configuration.Setting.{Setting}
use Rattle.psxk_run.specs.declared.configuration.Kept.{Kept}
use Rattle.psxk_run.specs.declared.configuration.ConfError.{ConfError}
use Rattle.psxk_run.specs.declared.configuration.ConfError.TheVariants.{TooLong, BadLine, Range}
use Rattle.psxk_run.specs.Config.{longest, config_lines, Says, threads_of, events_of, Gives, IsLineFault, IsFirstFault, IsConfigOf, IsKept, IsSettingFault}

-- how many bytes stand before the first line feed
abbrev pub line_end : List ℕ → ℕ
line_end text = position_or_len (λ b. eqb b 10) text

-- the first line
abbrev pub first_line : List ℕ → List ℕ
first_line text = strip_carriage_return (take (line_end text) text)

pub line_end_within : (text : List ℕ) → line_end text ≤ length text
line_end_within text = prefix_len-le-length (λ x. not (eqb x 10)) text

-- the lines are the first one and those behind its line feed
more_lines : (text : List ℕ) → line_end text < length text → config_lines text ≡ first_line text ∷ config_lines (drop (line_end text + 1) text)
more_lines text below = ap (map strip_carriage_return) (slice_split_first (λ b. eqb b 10) text 0 below)

-- or the first one alone
last_line : (text : List ℕ) → length text ≤ line_end text → config_lines text ≡ first_line text ∷ []
last_line text end =
    let none : All (λ x. eqb x 10 ≡ false) text = λ k d below. not-true _ (prefix_len_passes (λ x. not (eqb x 10)) text k d (omega arith)) in
    ap (map strip_carriage_return) (slice_split_none (λ b. eqb b 10) text none) ∙ ap (λ l. strip_carriage_return l ∷ []) (sym (take_all (line_end text) text end))

some_lines : (text : List ℕ) → (after : List (List ℕ)) × (config_lines text ≡ first_line text ∷ after)
some_lines text = ⊎_elim (λ below. (config_lines (drop (line_end text + 1) text), more_lines text below)) (λ end. ([], last_line text end)) (cases_lt (line_end text) (length text))

all_zip_push : (lines : List (List ℕ)) (settings : List Setting) (line : List ℕ) (s : Setting) → AllZip Says lines settings → Says line s → AllZip Says (lines ++ line ∷ []) (settings ++ s ∷ [])
all_zip_push [] [] line s said says = (says, tt)
all_zip_push (l ∷ lines) (t ∷ settings) line s said says = (said.0, all_zip_push lines settings line s said.1 says)
all_zip_push [] (t ∷ settings) line s said says = absurd said
all_zip_push (l ∷ lines) [] line s said says = absurd said

-- the lines before a rest are right, and this is kept of them
pub record Progress (text rest : List ℕ) (kept : Kept) (line : ℕ) : Type 0 where
  pub before : List (List ℕ)
  pub settings : List Setting
  pub split : config_lines text ≡ before ++ config_lines rest
  pub said : AllZip Says before settings
  pub kept_is : IsKept settings kept
  pub number : line ≡ length before + 1
  pub room : length before + length rest ≤ length text

pub start : (text : List ℕ) → Progress text text (record { threads = None; events = None }) 1
start text = record {
  before = [];
  settings = [];
  split = refl;
  said = tt;
  kept_is = record { right = record { threads = tt; events = tt }; threads = refl; events = refl };
  number = refl;
  room = omega arith;
}

pub more : (text rest : List ℕ) (kept next : Kept) (line : ℕ) (s : Setting) → (p : Progress text rest kept line) → line_end rest < length rest → Says (first_line rest) s
    → IsKept (p.settings ++ s ∷ []) next → Progress text (drop (line_end rest + 1) rest) next (line + 1)
more text rest kept next line s p below says is = record {
  before = p.before ++ first_line rest ∷ [];
  settings = p.settings ++ s ∷ [];
  split = p.split ∙ ap (λ l. p.before ++ l) (more_lines rest below) ∙ sym (append_assoc p.before (first_line rest ∷ []) (config_lines (drop (line_end rest + 1) rest)));
  said = all_zip_push p.before p.settings (first_line rest) s p.said says;
  kept_is = is;
  number = omega (arith, p.number, length-append p.before (first_line rest ∷ []));
  room = omega (arith, p.room, length-append p.before (first_line rest ∷ []), length-drop (line_end rest + 1) rest);
}

pub sizes : (text rest : List ℕ) (kept next : Kept) (line : ℕ) (s : Setting) (threads events : ℕ) → (p : Progress text rest kept line) → length rest ≤ line_end rest → Says (first_line rest) s
    → IsKept (p.settings ++ s ∷ []) next → threads ≡ unwrap_or next.threads 4 → events ≡ unwrap_or next.events 16 → Gives text (record { threads = threads; events = events })
sizes text rest kept next line s threads events p end says is is_threads is_events =
    let settings = p.settings ++ s ∷ [] in
    let lines : config_lines text ≡ p.before ++ first_line rest ∷ [] = p.split ∙ ap (λ l. p.before ++ l) (last_line rest end) in
    record {
      settings = settings;
      said = subst (λ (l : List (List ℕ)). AllZip Says l settings) (sym lines) (all_zip_push p.before p.settings (first_line rest) s p.said says);
      right = is.right;
      threads = is_threads ∙ ap (λ r. unwrap_or r 4) is.threads ∙ unwrap_or-slice_get (threads_of settings) 0 4;
      events = is_events ∙ ap (λ r. unwrap_or r 16) is.events ∙ unwrap_or-slice_get (events_of settings) 0 16;
    }

line_fault : (before : List Setting) (line : List ℕ) (s : Setting) (number : ℕ) (fault : ConfError) → Says line s → IsSettingFault before s number fault → IsLineFault before line number fault
line_fault before line s number (TooLong limit) says wrong = wrong
line_fault before line s number (BadLine at) says wrong = (wrong.0, inr (s, says, wrong.1))
line_fault before line s number (Range at) says wrong = (wrong.0, (s, says, wrong.1, wrong.2))

first_fault : (text rest : List ℕ) (kept : Kept) (line : ℕ) (fault : ConfError) → (p : Progress text rest kept line) → IsLineFault p.settings (first_line rest) line fault → IsFirstFault text fault
first_fault text rest kept line fault p wrong =
    let lines = some_lines rest in
    record {
      before = p.before;
      line = first_line rest;
      after = lines.0;
      settings = p.settings;
      split = p.split ∙ ap (λ l. p.before ++ l) lines.1;
      said = p.said;
      right = p.kept_is.right;
      wrong = subst (λ (n : ℕ). IsLineFault p.settings (first_line rest) n fault) p.number wrong;
    }

answer : (text : List ℕ) (fault : ConfError) → length text ≤ longest → IsFirstFault text fault → IsConfigOf text (Err fault)
answer text (TooLong limit) short first = absurd first.wrong
answer text (BadLine line) short first = (short, first)
answer text (Range line) short first = (short, first)

pub says_none : (text rest : List ℕ) (kept : Kept) (line : ℕ) → length text ≤ longest → Progress text rest kept line → ((s : Setting) → Says (first_line rest) s → ⊥)
    → IsConfigOf text (Err (BadLine line))
says_none text rest kept line short p none = answer text (BadLine line) short (first_fault text rest kept line (BadLine line) p (refl, inl none))

pub says_wrong : (text rest : List ℕ) (kept : Kept) (line : ℕ) (s : Setting) (fault : ConfError) → length text ≤ longest → (p : Progress text rest kept line) → Says (first_line rest) s
    → IsSettingFault p.settings s line fault → IsConfigOf text (Err fault)
says_wrong text rest kept line s fault short p says wrong =
    answer text fault short (first_fault text rest kept line fault p (line_fault p.settings (first_line rest) s line fault says wrong))
