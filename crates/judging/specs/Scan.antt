-- The scan over the bytes of the slots: what is known of the first k slots, and what each test says of all.
use Rattle.std.specs.Prelude.{◌≡◌, Bool, true, false, List, ℕ, ◌+◌, ◌-◌, ◌*◌, ◌≤◌, ◌<◌, get_or, set, replicate, take, drop, Option, Some, None}
use Rattle.std.proofs.Math.Path.{refl, ap}
use Rattle.std.proofs.Common.{sym, ◌∙◌, ap₂, add-zero, arith, lit<}
use Rattle.std.proofs.lemmas.Bool.{false≢true}
use Rattle.std.specs.Option.{is_none}
use Rattle.std.proofs.Math.Decide.{dec_lt}
use Rattle.std.proofs.Math.Nat.{add-sub_cancel_left}
use Rattle.words.specs.Choice.{both, either}
use Rattle.words.proofs.Choice.{both_left, both_right, both_yes}
use Rattle.words.specs.Parts.{part}
use Rattle.words.proofs.Parts.{get_or_part}
use Rattle.words.proofs.Tests.{both_false, either_false}
use Rattle.context.specs.declared.Logs.{Logs}
use Rattle.slots.specs.Slots.{slot, has_command}
use Rattle.slots.specs.declared.Status.TheVariants.{Free}
use Rattle.rows.specs.Rows.{any_slot}
use Rattle.rows.proofs.Every.{at, none_each, each_none}
use Rattle.slot_checks.specs.SlotChecks.{slot_wrong}
use Rattle.possible.specs.Possible.{both_commands, slots_clash}
use Rattle.possible.proofs.Pairs.{clashes_swap}
use Rattle.device_bytes.specs.Decoding.{slot_place, slot_at, slots_of}
use Rattle.device_bytes.proofs.Walks.{length_slots, get_or_slots, free_behind, more_slots, skip_slots}
use Rattle.hold_codes.specs.Codes.{no_hold, hold_of, holds_meet}
use Rattle.hold_codes.proofs.Meeting.{meet_is}
use Rattle.hold_codes.specs.declared.Hold.{Hold}
use Rattle.slot_judging.specs.Judging.{judged_of}
use Rattle.slot_judging.specs.Laws.{judged_wrong, judged_command, judged_hold}
use Rattle.slot_judging.specs.declared.Judged.{Judged}
use Rattle.judging.specs.Judging.{judged_at, holds_row, slots_impossible}
use Rattle.judging.specs.Sound.{Sound, sound_row, contrary, sound_changed, empty_sound, set_any, holds_at, holds_set}

-- what the scan knows when it has passed k slots: what each of them holds, that they are sound, and whether a command was seen
pub record Passed (g : Logs) (dev : List ℕ) (k : ℕ) (holds : List Hold) (seen : Bool) : Type 0 where
  pub rows : holds ≡ holds_row (slots_of k dev)
  pub sound : Sound g (slots_of k dev)
  pub commands : seen ≡ any_slot has_command (slots_of k dev)

-- what is judged of slot k, which is occupied
module _ (g : Logs) (k : ℕ) (dev : List ℕ) (some : ¬ (get_or dev (32 + k * 32) 0 ≡ 0)) where
  first : ¬ (get_or (part (slot_place k) 32 dev) 0 0 ≡ 0)
  first e =
      some (sym (get_or_part (slot_place k) 32 dev 0 (lit< tt) ∙ ap (λ (i : ℕ). get_or dev i 0) (add-zero (slot_place k))) ∙ e)

  at_wrong : is_none (judged_at g k dev) ≡ slot_wrong g (slot_at k dev)
  unfolding judged_at slot_at
  at_wrong = judged_wrong g (part (slot_place k) 32 dev) first

  at_command : (j : Judged) → judged_at g k dev ≡ Some j → j.command ≡ has_command (slot_at k dev)
  unfolding judged_at slot_at
  at_command = judged_command g (part (slot_place k) 32 dev) first

  at_hold : (j : Judged) → judged_at g k dev ≡ Some j → j.hold ≡ hold_of (slot_at k dev)
  unfolding judged_at slot_at
  at_hold = judged_hold g (part (slot_place k) 32 dev) first

module _ (g : Logs) (dev : List ℕ) where
  -- a slot of the row of eight
  at_is : (k : ℕ) → k < 8 → at (slots_of 8 dev) k ≡ slot_at k dev
  at_is k h = get_or_slots 8 dev k h (omega arith)

  pub passed_none : (none : Hold) (holds : List Hold) → none ≡ no_hold → holds ≡ replicate 8 none → Passed g dev 0 holds false
  unfolding slots_of any_slot
  passed_none none holds e f =
      record { rows = f ∙ ap (replicate 8) e; sound = empty_sound g; commands = refl }

  pub passed_free : (k : ℕ) (holds : List Hold) (c : Bool) → Passed g dev k holds c → get_or dev (32 + k * 32) 0 ≡ 0
      → Passed g dev (k + 1) holds c
  passed_free k holds c p e =
      let same : slots_of k dev ≡ slots_of (k + 1) dev = skip_slots dev (slots_of k dev) k refl e in
      record {
        rows = p.rows ∙ ap holds_row same;
        sound = rw same at p.sound;
        commands = p.commands ∙ ap (any_slot has_command) same;
      }

  pub passed_all : (k : ℕ) (holds : List Hold) (c : Bool) → Passed g dev k holds c → k ≤ 8 → 8 ≤ k
      → false ≡ slots_impossible g (slots_of 8 dev)
  passed_all k holds c p h i =
      let z : k ≡ 8 = omega arith in
      sym (sound_row g (slots_of 8 dev) (rw z at p.sound))

  -- the slot that is looked at, k
  module _ (k : ℕ) (h : k < 8) (holds : List Hold) (c : Bool) (p : Passed g dev k holds c) where
    bad_found : slot_wrong g (slot_at k dev) ≡ true → true ≡ slots_impossible g (slots_of 8 dev)
    bad_found e = contrary g (slots_of 8 dev) (λ o. false≢true (sym (o.right k) ∙ ap (slot_wrong g) (at_is k h) ∙ e))

    -- no other command, if a row with this one is sound
    no_other : Sound g (slots_of 8 dev) → has_command (slot_at k dev) ≡ true → (j : ℕ) → has_command (at (slots_of k dev) j) ≡ false
    no_other o e j = go (dec_lt j k)
      where
        go : Dec (j < k) → has_command (at (slots_of k dev) j) ≡ false
        go (yes y) =
            let a : at (slots_of k dev) j ≡ slot_at j dev = get_or_slots k dev j y (omega arith) in
            let b : both_commands (at (slots_of 8 dev) k) (at (slots_of 8 dev) j) ≡ false = o.commands k j (λ i. omega arith) in
            ap has_command a ∙ (rw (at_is k h, at_is j (omega arith), e) at b)
        go (no y) = ap has_command (free_behind k dev j (omega arith))

    command_found : both c (has_command (slot_at k dev)) ≡ true → true ≡ slots_impossible g (slots_of 8 dev)
    command_found e =
        contrary g (slots_of 8 dev)
        (λ o. false≢true
        (sym (each_none has_command (slots_of k dev) (no_other o (both_right c (has_command (slot_at k dev)) e)))
        ∙ sym p.commands ∙ both_left c (has_command (slot_at k dev)) e))

    clash_found : (j : ℕ) → j < k → slots_clash (slot_at k dev) (at (slots_of k dev) j) ≡ true → true ≡ slots_impossible g (slots_of 8 dev)
    clash_found j l e =
        contrary g (slots_of 8 dev)
        (λ o. let a : at (slots_of k dev) j ≡ at (slots_of 8 dev) j = get_or_slots k dev j l (omega arith) ∙ sym (at_is j (omega arith)) in
        let b : slots_clash (at (slots_of 8 dev) k) (at (slots_of 8 dev) j) ≡ false = o.holds k j (λ i. omega arith) in
        false≢true (sym (ap₂ slots_clash (sym (at_is k h)) a ∙ b) ∙ e))

    passed_more : slot_wrong g (slot_at k dev) ≡ false → both c (has_command (slot_at k dev)) ≡ false
        → ((j : ℕ) → j < k → slots_clash (slot_at k dev) (at (slots_of k dev) j) ≡ false)
        → Passed g dev (k + 1) (set holds k (hold_of (slot_at k dev))) (either c (has_command (slot_at k dev)))
    passed_more right lone f =
        let more : set (slots_of k dev) k (slot_at k dev) ≡ slots_of (k + 1) dev = more_slots dev (slots_of k dev) k (slot_at k dev) refl refl in
        record {
          rows =
              ap (λ (l : List Hold). set l k (hold_of (slot_at k dev))) p.rows ∙ holds_set (slots_of k dev) k (slot_at k dev)
              ∙ ap holds_row more;
          sound = rw more at (sound_changed g (slots_of k dev) k (slot_at k dev) right beside apart p.sound);
          commands = counted ∙ ap (any_slot has_command) more;
        }
      where
        beside : (i : ℕ) → ¬ (i ≡ k) → both_commands (slot_at k dev) (at (slots_of k dev) i) ≡ false
        beside i n = go c refl
          where
            go : (b : Bool) → c ≡ b → both_commands (slot_at k dev) (at (slots_of k dev) i) ≡ false
            go true q = ap (λ (b : Bool). both b (has_command (at (slots_of k dev) i))) (rw q at lone)
            go false q = both_false (has_command (slot_at k dev)) _ (none_each has_command (slots_of k dev) refl (sym p.commands ∙ q) i)

        apart : (i : ℕ) → ¬ (i ≡ k) → slots_clash (slot_at k dev) (at (slots_of k dev) i) ≡ false
        apart i n = go (dec_lt i k)
          where
            go : Dec (i < k) → slots_clash (slot_at k dev) (at (slots_of k dev) i) ≡ false
            go (yes y) = f i y
            go (no y) = ap (slots_clash (slot_at k dev)) (free_behind k dev i (omega arith)) ∙ clashes_swap (slot_at k dev) (slot Free)

        counted : either c (has_command (slot_at k dev)) ≡ any_slot has_command (set (slots_of k dev) k (slot_at k dev))
        counted =
            ap (λ (b : Bool). either b (has_command (slot_at k dev))) p.commands
            ∙ set_any (slots_of k dev) k (slot_at k dev) (omega (arith, length_slots k dev))
            (ap has_command (free_behind k dev k (omega arith)))

-- ---- commands: c says whether one was seen, b whether this slot has one, d what is then seen

pub record Seen (c b d : Bool) : Type 0 where
  pub counted : d ≡ either c b
  pub lone : both c b ≡ false

pub seen_more : (c b d : Bool) → b ≡ true → c ≡ false → d ≡ true → Seen c b d
seen_more c b d e f i = record { counted = i ∙ rw (e, f); lone = rw f }

pub seen_same : (c b d : Bool) → b ≡ false → d ≡ c → Seen c b d
seen_same c b d e i = record { counted = i ∙ rw e (sym (either_false c)); lone = both_false c b e }

-- ---- as the code has them: o is what is judged of slot k

module _ (g : Logs) (dev : List ℕ) (k : ℕ) (holds : List Hold) (c : Bool) (o : Option Judged) (h : k < 8) (p : Passed g dev k holds c)
    (some : ¬ (get_or dev (32 + k * 32) 0 ≡ 0)) (e : o ≡ judged_at g k dev) where
  is_wrong : is_none o ≡ slot_wrong g (slot_at k dev)
  is_wrong = ap is_none e ∙ at_wrong g k dev some

  pub wrong_told : o ≡ None → true ≡ slots_impossible g (slots_of 8 dev)
  wrong_told f = bad_found g dev k h holds c p (sym is_wrong ∙ ap is_none f)

  -- it is not wrong
  module _ (j : Judged) (right : o ≡ Some j) where
    is_command_lem : j.command ≡ has_command (slot_at k dev)
    is_command_lem = at_command g k dev some j (sym e ∙ right)

    is_hold : j.hold ≡ hold_of (slot_at k dev)
    is_hold = at_hold g k dev some j (sym e ∙ right)

    pub second_told : j.command ≡ true → c ≡ true → true ≡ slots_impossible g (slots_of 8 dev)
    second_told f i = command_found g dev k h holds c p (both_yes c (has_command (slot_at k dev)) i (sym is_command_lem ∙ f))

    meets : (i : ℕ) → holds_meet j.hold (get_or holds i no_hold) ≡ slots_clash (slot_at k dev) (at (slots_of k dev) i)
    meets i =
        ap₂ holds_meet is_hold (ap (λ (l : List Hold). get_or l i no_hold) p.rows ∙ holds_at (slots_of k dev) i)
        ∙ meet_is (slot_at k dev) (at (slots_of k dev) i)

    pub clash_told : (i : ℕ) (d : Bool) → i < k → d ≡ holds_meet j.hold (get_or holds i no_hold) → d ≡ true
        → true ≡ slots_impossible g (slots_of 8 dev)
    clash_told i d l m n = clash_found g dev k h holds c p i l (sym (meets i) ∙ sym m ∙ n)

    pub more_told : (i : ℕ) (d : Bool) → Seen c j.command d
        → ((m : ℕ) → m < i → holds_meet j.hold (get_or holds m no_hold) ≡ false) → k ≤ i
        → Passed g dev (k + 1) (set holds k j.hold) d
    more_told i d n a l =
        rw (n.counted, is_hold, is_command_lem)
        (passed_more g dev k h holds c p (sym is_wrong ∙ ap is_none right) (ap (both c) (sym is_command_lem) ∙ n.lone)
        (λ m y. sym (meets m) ∙ a m (omega arith)))

-- a test that fails of the first j numbers, and of the next
pub clear_told : (f : ℕ → Bool) (j : ℕ) (b : Bool) → ((m : ℕ) → m < j → f m ≡ false) → b ≡ f j → b ≡ false → (m : ℕ) → m < j + 1
    → f m ≡ false
clear_told f j b h e i m l = go (dec_lt m j)
  where
    go : Dec (m < j) → f m ≡ false
    go (yes y) = h m y
    go (no y) =
        let z : m ≡ j = omega arith in
        ap f z ∙ sym e ∙ i

-- the bytes that are lent for slot k
pub at_told : (g : Logs) (k : ℕ) (dev : List ℕ) (o : Option Judged)
    → o ≡ judged_of g (take (32 + k * 32 + 32 - (32 + k * 32)) (drop (32 + k * 32) dev)) → o ≡ judged_at g k dev
unfolding judged_at part
at_told g k dev o e = e ∙ rw add-sub_cancel_left
