-- What the byte rule leaves of a record: all outside the request's bursts, and after a write that sets a state that state. So
-- the bursts of a request are its whole effect (`writes_whole`).
use Rattle.std.specs.Prelude.{◌≡◌, refl, true, List, [], ◌∷◌, ℕ, ◌+◌, ◌/◌, ◌≤◌, ◌<◌, length, get_or}
use Rattle.std.proofs.Common.{◌∙◌, ap, inl, inr, arith, ne_eqb}
use Rattle.words.specs.Maps.{map_from}
use Rattle.context.specs.Layout.{record_size}
use Rattle.context.specs.declared.Record.{Record}
use Rattle.edges.specs.States.{state_code}
use Rattle.edges.specs.Edges.{to_of}
use Rattle.edges.specs.declared.State.{State}
use Rattle.requests.specs.declared.PsnField.{PsnField}
use Rattle.requests.specs.declared.PsnField.TheVariants.{NextSend, LastAcked, Expected}
use Rattle.requests.specs.declared.Command.TheVariants as command
use Rattle.requests.specs.declared.EngineRequest.TheVariants as engine
use Rattle.requests.specs.declared.Request.{Request}
use Rattle.requests.specs.declared.Request.TheVariants as request
use Rattle.request_table.specs.Records.{record_of, writes_of}
use Rattle.burst_table.specs.Sizes.{burst_size}
use Rattle.burst_table.specs.Bursts.{psn_place, burst_count, whole, state_and_psn, bursts_by, bursts_of}
use Rattle.burst_table.proofs.Touched.{Inside, Touched, all_touched}
use Rattle.burst_table.proofs.Laws.{count_bursts, bursts_fit, bursts_once}
use Rattle.bursts.specs.Bursts.{burst, after}
use Rattle.bursts.proofs.Bursts.{burst_in, after_whole}
use Rattle.byte_rule.specs.Bytes.{with_state, psn_byte, write_byte, byte_of}
use Rattle.byte_rule.proofs.States.{edge_state, write_state}

-- An engine write changes bytes of its two bursts alone.
psn_kept : (at psn i b : ℕ) → ¬ (i ≡ at + 1) → ¬ (i ≡ at + 2) → ¬ (i ≡ at + 3) → psn_byte at psn i b ≡ b
unfolding psn_byte
psn_kept at psn i b x y z = rw (ne_eqb i (at + 1) x, ne_eqb i (at + 2) y, ne_eqb i (at + 3) z)

state_kept : (s : State) (i b : ℕ) → ¬ (i ≡ 0) → with_state s i b ≡ b
unfolding with_state
state_kept s i b x = rw (ne_eqb i 0 x)

-- the three bytes of a PSN lie in the burst of its word
psn_inside : (p : PsnField) (i : ℕ) → psn_place p ≤ i → i ≤ psn_place p + 3 → Inside i (psn_place p / burst_size)
psn_inside NextSend i h k = (omega arith, omega arith)
psn_inside LastAcked i h k = (omega arith, omega arith)
psn_inside Expected i h k = (omega arith, omega arith)

write_kept : (p : PsnField) (psn : ℕ) (s : State) (i b : ℕ) → ¬ Touched i (bursts_by (state_and_psn p) []) → write_byte p psn s i b ≡ b
unfolding write_byte
write_kept p psn s i b n =
    state_kept s i (psn_byte (psn_place p) psn i b) front
    ∙ psn_kept (psn_place p) psn i b (off 1 (omega arith)) (off 2 (omega arith)) (off 3 (omega arith))
  where
    front : ¬ (i ≡ 0)
    front e = n (inl (omega (arith, e), omega (arith, e)))

    off : (k : ℕ) → k ≤ 3 → ¬ (i ≡ psn_place p + k)
    off k h e = n (inr (inl (psn_inside p i (omega (arith, e)) (omega (arith, e)))))

-- every byte of a record that is moved whole lies in one of its bursts
whole_touched : (X : Record) (i : ℕ) → i < record_size X → Touched i (bursts_by whole (X ∷ []))
whole_touched X i h = all_touched (burst_count (X ∷ [])) i (omega (arith, count_bursts (X ∷ [])))

pub byte_kept : (q : Request) (mail : List ℕ) (i b : ℕ) → i < record_size (record_of q) → ¬ Touched i (bursts_of q)
    → byte_of q mail i b ≡ b
byte_kept (request.Command c) mail i b h n = absurd (n (whole_touched (record_of (request.Command c)) i h))
byte_kept (request.Engine (engine.ReadState m)) mail i b h n = refl
byte_kept (request.Engine (engine.ReadNext m)) mail i b h n = refl
byte_kept (request.Engine (engine.ReadAll m)) mail i b h n = refl
byte_kept (request.Engine (engine.Write p s m psn)) mail i b h n = write_kept p psn s i b n
byte_kept (request.Engine (engine.ReadJoined m c e)) mail i b h n = refl

-- all the bursts of a write, each from what stands there, are its whole effect on the record c
pub writes_whole : (q : Request) → writes_of q ≡ true → (mail c : List ℕ) → length c ≡ record_size (record_of q)
    → after (byte_of q mail) (bursts_of q) c ≡ map_from (byte_of q mail) 0 c
writes_whole q w mail c e =
    after_whole (byte_of q mail) (bursts_of q) c (rw e (bursts_fit q w)) (bursts_once q)
    (λ i b l n. byte_kept q mail i b (omega (arith, e)) n)

-- The state that a request leaves, if it sets one (01, Commands and Engine requests).
abbrev pub Sets : Request → State → Type 0
Sets (request.Command (command.Sw2Hw o)) s = ⊥
Sets (request.Command (command.Hw2Sw o)) s = ⊥
Sets (request.Command (command.ResizeCq n)) s = ⊥
Sets (request.Command (command.QueryQp n)) s = ⊥
Sets (request.Command (command.ModifyQp e n)) s = to_of e ≡ s
Sets (request.Engine (engine.ReadState n)) s = ⊥
Sets (request.Engine (engine.ReadNext n)) s = ⊥
Sets (request.Engine (engine.ReadAll n)) s = ⊥
Sets (request.Engine (engine.Write p t n psn)) s = t ≡ s
Sets (request.Engine (engine.ReadJoined n c e)) s = ⊥

pub state_after : (q : Request) (s : State) → Sets q s → (mail : List ℕ) (b : ℕ) → byte_of q mail 0 b / 16 ≡ state_code s
state_after (request.Command (command.Sw2Hw o)) s x mail b = absurd x
state_after (request.Command (command.Hw2Sw o)) s x mail b = absurd x
state_after (request.Command (command.ResizeCq n)) s x mail b = absurd x
state_after (request.Command (command.QueryQp n)) s x mail b = absurd x
state_after (request.Command (command.ModifyQp e n)) s x mail b = edge_state e mail b ∙ ap state_code x
state_after (request.Engine (engine.ReadState n)) s x mail b = absurd x
state_after (request.Engine (engine.ReadNext n)) s x mail b = absurd x
state_after (request.Engine (engine.ReadAll n)) s x mail b = absurd x
state_after (request.Engine (engine.Write p t n psn)) s x mail b = write_state p psn t b ∙ ap state_code x
state_after (request.Engine (engine.ReadJoined n c e)) s x mail b = absurd x

-- the record's state is set by the first burst
pub state_first : (q : Request) (s : State) → Sets q s → (mail c : List ℕ) → burst_size ≤ length c
    → get_or (burst (byte_of q mail) 0 c) 0 0 / 16 ≡ state_code s
state_first q s x mail c h =
    ap (λ (b : ℕ). b / 16) (burst_in (byte_of q mail) 0 c h 0 (omega arith, omega arith)) ∙ state_after q s x mail (get_or c 0 0)
