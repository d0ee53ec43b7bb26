-- The laws of the answers: how long they are, which bits request 2 answers, and that an answer is made of the bytes that the request's
-- bursts copied. The bytes are a slot's part of the room, or the request's records one behind the other.
use Rattle.std.specs.Prelude.{◌≡◌, refl, List, [], ◌∷◌, ℕ, suc, ◌+◌, ◌*◌, ◌/◌, ◌%◌, ◌≤◌, ◌<◌, length, get_or}
use Rattle.std.proofs.Common.{sym, ◌∙◌, ap, inl, inr, arith}
use Rattle.words.specs.Parts.{part}
use Rattle.words.proofs.Parts.{part_agrees, length_part, part_part}
use Rattle.words.specs.Words.{bits, AreBytes, be32, be_bytes}
use Rattle.words.proofs.Leaves.{le_four, part_four, be32_is}
use Rattle.context.specs.Layout.{size_of}
use Rattle.context.specs.declared.Kind.TheVariants as kind
use Rattle.requests.specs.declared.PsnField.TheVariants.{NextSend}
use Rattle.requests.specs.declared.Command.{Command}
use Rattle.requests.specs.declared.Command.TheVariants as command
use Rattle.requests.specs.declared.EngineRequest.{EngineRequest}
use Rattle.requests.specs.declared.EngineRequest.TheVariants as engine
use Rattle.requests.specs.declared.Request.{Request}
use Rattle.requests.specs.declared.Request.TheVariants as request
use Rattle.request_table.specs.Records.{records_of}
use Rattle.burst_table.specs.Sizes.{burst_size}
use Rattle.burst_table.specs.Bursts.{psn_place, bursts_from, joined_size, command_bursts, engine_bursts, bursts_of}
use Rattle.checks.specs.Fields.{state_of}
use Rattle.burst_table.proofs.Touched.{Touched, all_touched}
use Rattle.answers.specs.Answers.{state_answer, next_answer, whole_answer, joined_answer, command_answer, engine_answer, answer_of}
use Rattle.answers.specs.Answers.{three_size, command_answer_size, engine_answer_size, answer_size}

length_command : (c : Command) (p : List ℕ) → joined_size (records_of (request.Command c)) ≤ length p
    → length (command_answer c p) ≡ command_answer_size c
unfolding whole_answer
length_command (command.Sw2Hw o) p h = refl
length_command (command.Hw2Sw o) p h = refl
length_command (command.ResizeCq n) p h = refl
length_command (command.QueryQp n) p h = length_part 0 (size_of kind.Qp) p h
length_command (command.ModifyQp e n) p h = refl

length_engine : (e : EngineRequest) (p : List ℕ) → joined_size (records_of (request.Engine e)) ≤ length p
    → length (engine_answer e p) ≡ engine_answer_size e
unfolding state_answer next_answer whole_answer joined_answer
length_engine (engine.ReadState n) p h = refl
length_engine (engine.ReadNext n) p h = ap suc (length_part 0x6d 3 p (omega arith))
length_engine (engine.ReadAll n) p h = length_part 0 (size_of kind.Qp) p h
length_engine (engine.Write w s n psn) p h = refl
length_engine (engine.ReadJoined n c e) p h = length_part 0 three_size p h

-- An answer has as many bytes as answer_size says.
pub length_answer : (q : Request) (p : List ℕ) → joined_size (records_of q) ≤ length p → length (answer_of q p) ≡ answer_size q
length_answer (request.Command c) p h = length_command c p h
length_answer (request.Engine e) p h = length_engine e p h

three_bytes : (x y z : ℕ) → x < 256 → y < 256 → z < 256 → be_bytes 3 (z + y * 0x100 + x * 0x10000) ≡ x ∷ y ∷ z ∷ []
unfolding be_bytes
three_bytes x y z h i j =
    let e : (z + y * 0x100 + x * 0x10000) / 0x10000 % 256 ≡ x = omega arith in
    let f : (z + y * 0x100 + x * 0x10000) / 0x100 % 256 ≡ y = omega arith in
    let g : (z + y * 0x100 + x * 0x10000) / 1 % 256 ≡ z = omega arith in
    rw (e, f, g)

-- of bytes, the three behind a word's first are its low 24 bits, high byte first
low_three : (at : ℕ) (p : List ℕ) → AreBytes p → at + 4 ≤ length p → part (at + 1) 3 p ≡ be_bytes 3 (bits 23 0 (be32 at p))
unfolding part bits
low_three at p a h =
    let w : bits 23 0 (be32 at p) ≡ get_or p (at + 3) 0 + get_or p (at + 2) 0 * 0x100 + get_or p (at + 1) 0 * 0x10000 =
    rw (← be32_is at p h, le_four) (omega (arith, a at, a (at + 1), a (at + 2), a (at + 3))) in
    sym (part_part at 4 1 3 p h (omega arith)) ∙ ap (part 1 3) (part_four at p h)
    ∙ sym (three_bytes _ _ _ (a (at + 1)) (a (at + 2)) (a (at + 3))) ∙ ap (be_bytes 3) (sym w)

-- Of bytes, what request 2 answers behind the state is the PSN: the low 24 bits of the word of next_send_psn (01, The context store).
pub psn_bytes : (p : List ℕ) → AreBytes p → size_of kind.Qp ≤ length p
    → next_answer p ≡ state_of p ∷ be_bytes 3 (bits 23 0 (be32 (psn_place NextSend) p))
unfolding next_answer
psn_bytes p a h = ap (λ (l : List ℕ). state_of p ∷ l) (low_three 0x6c p a (omega arith))

-- p and c agree at every byte that lies in one of the bursts
abbrev pub AgreeOn : List ℕ → List ℕ → List ℕ → Type 0
AgreeOn js p c = (i : ℕ) → Touched i js → get_or p i 0 ≡ get_or c i 0

state_agrees : (js p c : List ℕ) → AgreeOn (0 ∷ js) p c → state_of p ≡ state_of c
unfolding state_of
state_agrees js p c a = rw (a 0 (inl (omega arith, omega arith)))

-- the front of both, of so many bursts
front_agrees : (n : ℕ) (p c : List ℕ) → burst_size * n ≤ length p → burst_size * n ≤ length c → AgreeOn (bursts_from 0 n) p c
    → part 0 (burst_size * n) p ≡ part 0 (burst_size * n) c
front_agrees n p c h k a =
    part_agrees 0 (burst_size * n) p c (omega arith) (omega arith) (λ i j. a (0 + i) (all_touched n (0 + i) (omega arith)))

whole_agrees : (p c : List ℕ) → size_of kind.Qp ≤ length p → size_of kind.Qp ≤ length c → AgreeOn (bursts_from 0 16) p c
    → whole_answer p ≡ whole_answer c
unfolding whole_answer
whole_agrees = front_agrees 16

next_agrees : (p c : List ℕ) → size_of kind.Qp ≤ length p → size_of kind.Qp ≤ length c → AgreeOn (0 ∷ 6 ∷ []) p c
    → next_answer p ≡ next_answer c
unfolding next_answer
next_agrees p c h k a =
    rw (
      state_agrees (6 ∷ []) p c a,
      part_agrees 0x6d 3 p c (omega arith) (omega arith) (λ i j. a (0x6d + i) (inr (inl (omega arith, omega arith)))),
    )

joined_agrees : (p c : List ℕ) → three_size ≤ length p → three_size ≤ length c → AgreeOn (bursts_from 0 24) p c
    → joined_answer p ≡ joined_answer c
unfolding joined_answer
joined_agrees = front_agrees 24

-- both have the request's records, or more
abbrev Long : Request → List ℕ → Type 0
Long q p = joined_size (records_of q) ≤ length p

command_agrees : (d : Command) (p c : List ℕ) → Long (request.Command d) p → Long (request.Command d) c → AgreeOn (command_bursts d) p c
    → command_answer d p ≡ command_answer d c
command_agrees (command.Sw2Hw o) p c h k a = refl
command_agrees (command.Hw2Sw o) p c h k a = refl
command_agrees (command.ResizeCq n) p c h k a = refl
command_agrees (command.QueryQp n) p c h k a = whole_agrees p c h k a
command_agrees (command.ModifyQp e n) p c h k a = refl

engine_agrees : (e : EngineRequest) (p c : List ℕ) → Long (request.Engine e) p → Long (request.Engine e) c → AgreeOn (engine_bursts e) p c
    → engine_answer e p ≡ engine_answer e c
unfolding state_answer
engine_agrees (engine.ReadState n) p c h k a = rw (state_agrees [] p c a)
engine_agrees (engine.ReadNext n) p c h k a = next_agrees p c h k a
engine_agrees (engine.ReadAll n) p c h k a = whole_agrees p c h k a
engine_agrees (engine.Write w s n psn) p c h k a = refl
engine_agrees (engine.ReadJoined n d e) p c h k a = joined_agrees p c h k a

-- An answer depends only on the bytes that the request's bursts move.
pub answer_agrees : (q : Request) (p c : List ℕ) → joined_size (records_of q) ≤ length p → joined_size (records_of q) ≤ length c
    → AgreeOn (bursts_of q) p c → answer_of q p ≡ answer_of q c
answer_agrees (request.Command d) p c h k a = command_agrees d p c h k a
answer_agrees (request.Engine e) p c h k a = engine_agrees e p c h k a
