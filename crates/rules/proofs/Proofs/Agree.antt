-- The plain book's whole effect is the byte rule over all bytes of the record.
use Rattle.std.specs.Prelude.{◌≡◌, refl, false, List, [], ◌∷◌, ◌++◌, ◌⊎◌, ℕ, ◌+◌, ◌-◌, ◌/◌, ◌%◌, ◌≤◌, ◌<◌, eqb, ltb, length, get_or, replicate}
use Rattle.std.proofs.Common.{sym, ◌∙◌, ap, inl, zero-add, arith, length-append, get_or-append-add, eq-eqb, ne_eqb, lt-ltb, le-ltb}
use Rattle.std.proofs.Math.Decide.{dec_lt}
use Rattle.std.proofs.lemmas.List.{length-replicate, get_or-replicate, get_or_at}
use Rattle.std.proofs.Math.ListN.{get_or-append}
use Rattle.words.specs.Choice.{pick, within}
use Rattle.words.proofs.Choice.{pick_yes, pick_no}
use Rattle.words.specs.Parts.{part, splice}
use Rattle.words.proofs.Parts.{length_part, get_or_part}
use Rattle.words.specs.Words.{be_bytes}
use Rattle.words.specs.Maps.{map_from}
use Rattle.words.proofs.Maps.{length_map_from, made_map, map_cong, map_map, map_same, replicate_map, splice_map, copy_map}
use Rattle.context.specs.Layout.{record_size}
use Rattle.requests.specs.declared.PsnField.{PsnField}
use Rattle.requests.specs.declared.PsnField.TheVariants.{NextSend, LastAcked, Expected}
use Rattle.requests.specs.declared.Owned.{Owned}
use Rattle.requests.specs.declared.Owned.TheVariants as owned
use Rattle.requests.specs.declared.Command.TheVariants as command
use Rattle.requests.specs.declared.EngineRequest.TheVariants as engine
use Rattle.requests.specs.declared.Request.{Request}
use Rattle.requests.specs.declared.Request.TheVariants as request
use Rattle.request_table.proofs.Sizes.{owned_size}
use Rattle.request_table.specs.Records.{record_of}
use Rattle.mailboxes.specs.Mailboxes.{stored_of, need_of}
use Rattle.burst_table.specs.Bursts.{psn_place}
use Rattle.byte_rule.specs.Bytes.{sw2hw_byte, resize_byte, psn_byte, write_byte, byte_of}
use Rattle.rules.specs.Whole.{owned_effect, resize_effect, set_psn, psn_effect, whole_effect}
use Rattle.words.proofs.Tests.{within_yes, within_no, beyond}
use Rattle.rules.proofs.Proofs.AgreeEdges.{state_over, edge_bytes}

-- n bytes of the mailbox, zeroes up to byte 63, and there the owner
owned_map : (n k : ℕ) (mail r : List ℕ) → n ≤ length mail → n + k ≡ 63 → length r ≡ 64
    → part 0 n mail ++ (replicate k 0 ++ (1 ∷ [])) ≡ map_from (λ i old. pick (ltb i n) (get_or mail i 0) (pick (eqb i 63) 1 0)) 0 r
owned_map n k mail r h e w =
    made_map _ (front ++ back) r (simp (length-append, length-replicate) (omega (arith, long)))
    (λ i j. each i (dec_lt i n) (dec_lt i 63) (omega arith))
  where
    front : List ℕ
    front = part 0 n mail

    back : List ℕ
    back = replicate k 0 ++ (1 ∷ [])

    long : length front ≡ n
    long = length_part 0 n mail (omega arith)

    behind : (j : ℕ) → get_or (front ++ back) (n + j) 0 ≡ get_or back j 0
    behind j = ap (λ (x : ℕ). get_or (front ++ back) (x + j) 0) (sym long) ∙ get_or-append-add front back j 0

    each : (i : ℕ) → Dec (i < n) → Dec (i < 63) → i < 64 → get_or (front ++ back) i 0 ≡ pick (ltb i n) (get_or mail i 0) (pick (eqb i 63) 1 0)
    each i (yes y) z j =
        pick_yes (ltb i n) _ _ _ (lt-ltb i n y)
        (get_or-append front back 0 i (omega (arith, long)) ∙ get_or_part 0 n mail i y ∙ ap (λ (x : ℕ). get_or mail x 0) (zero-add i))
    each i (no y) (yes z) j =
        let d : i ≡ n + (i - n) = omega arith in
        pick_no (ltb i n) _ _ _ (le-ltb i n (omega arith))
        (pick_no (eqb i 63) _ _ _ (ne_eqb i 63 (λ x. omega arith))
        (ap (λ (x : ℕ). get_or (front ++ back) x 0) d ∙ behind (i - n)
        ∙ get_or-append (replicate k 0) (1 ∷ []) 0 (i - n) (omega (arith, length-replicate {A = ℕ} k 0))
        ∙ get_or-replicate k (i - n) 0 0 (omega arith)))
    each i (no y) (no z) j =
        let d : i ≡ n + k = omega arith in
        pick_no (ltb i n) _ _ _ (le-ltb i n (omega arith))
        (pick_yes (eqb i 63) _ _ _ (eq-eqb i 63 (omega arith))
        (ap (λ (x : ℕ). get_or (front ++ back) x 0) d ∙ behind k ∙ get_or_at (replicate k 0) 1 [] 0 k (length-replicate k 0)))

owned_bytes : (o : Owned) (mail r : List ℕ) → stored_of o ≤ length mail → length r ≡ 64
    → owned_effect o mail ≡ map_from (λ i old. sw2hw_byte o mail i) 0 r
unfolding sw2hw_byte
owned_bytes (owned.Mpt n) mail r h w = owned_map 56 7 mail r h refl w
owned_bytes (owned.Eq n) mail r h w = owned_map 48 15 mail r h refl w
owned_bytes (owned.Cq n) mail r h w = owned_map 56 7 mail r h refl w

resize_bytes : (mail r : List ℕ) → 8 ≤ length mail → length r ≡ 64 → resize_effect mail r ≡ map_from (resize_byte mail) 0 r
unfolding resize_effect resize_byte
resize_bytes mail r h w =
    ap (splice 0x18 (part 0x04 4 mail)) byte_map ∙ word_map ∙ map_map word byte 0 r
    ∙ map_cong _ (resize_byte mail) 0 r (λ i b. swap i b (dec_lt i 0x18))
  where
    byte : ℕ → ℕ → ℕ
    byte i b = pick (eqb i 0x0c) (get_or mail 0 0) b

    word : ℕ → ℕ → ℕ
    word i b = pick (within 0x18 0x1b i) (get_or mail (i - 0x14) 0) b

    byte_map : splice 0x0c (part 0x00 1 mail) r ≡ map_from byte 0 r
    byte_map =
        copy_map (λ i. eqb i 0x0c) (λ i. 0) 0x0c 0x00 1 mail r (omega arith) (omega arith)
        (λ i j k. eq-eqb i 0x0c (omega arith)) (λ i o. beyond 0x0c 1 0x0c i (omega arith) (omega arith) o) (λ i j k. omega arith)

    word_map : splice 0x18 (part 0x04 4 mail) (map_from byte 0 r) ≡ map_from word 0 (map_from byte 0 r)
    word_map =
        copy_map (within 0x18 0x1b) (λ i. i - 0x14) 0x18 0x04 4 mail (map_from byte 0 r) h (omega (arith, length_map_from byte 0 r))
        (λ i j k. within_yes 0x18 0x1b i j (omega arith)) (λ i o. within_no 0x18 0x1b i o) (λ i j k. omega arith)

    -- they are apart, so that the order does not matter
    swap : (i b : ℕ) → Dec (i < 0x18) → word i (byte i b) ≡ byte i (word i b)
    swap i b (yes y) = rw (within_no 0x18 0x1b i (inl y))
    swap i b (no y) = rw (ne_eqb i 0x0c (λ e. omega arith))

psn_map : (at psn : ℕ) (r : List ℕ) → at + 4 ≤ length r → set_psn at psn r ≡ map_from (psn_byte at psn) 0 r
unfolding set_psn psn_byte be_bytes
psn_map at psn r h =
    splice_map (psn_byte at psn) (at + 1) 3 (be_bytes 3 psn) r refl (omega arith)
    (λ i j k. inside i j k (dec_lt i (at + 2)) (dec_lt i (at + 3))) outside
  where
    inside : (i : ℕ) → at + 1 ≤ i → i < at + 1 + 3 → Dec (i < at + 2) → Dec (i < at + 3)
        → get_or (be_bytes 3 psn) (i - (at + 1)) 0 ≡ psn_byte at psn i (get_or r i 0)
    inside i j k (yes y) z =
        let d : i - (at + 1) ≡ 0 = omega arith in
        pick_yes (eqb i (at + 1)) _ _ _ (eq-eqb i (at + 1) (omega arith)) (rw d)
    inside i j k (no y) (yes z) =
        let d : i - (at + 1) ≡ 1 = omega arith in
        pick_no (eqb i (at + 1)) _ _ _ (ne_eqb i (at + 1) (λ e. omega arith))
        (pick_yes (eqb i (at + 2)) _ _ _ (eq-eqb i (at + 2) (omega arith)) (rw d))
    inside i j k (no y) (no z) =
        let d : i - (at + 1) ≡ 2 = omega arith in
        let e : psn / 1 % 256 ≡ psn % 256 = omega arith in
        pick_no (eqb i (at + 1)) _ _ _ (ne_eqb i (at + 1) (λ e. omega arith))
        (pick_no (eqb i (at + 2)) _ _ _ (ne_eqb i (at + 2) (λ e. omega arith))
        (pick_yes (eqb i (at + 3)) _ _ _ (eq-eqb i (at + 3) (omega arith)) (rw (d, e))))

    outside : (i : ℕ) → (i < at + 1) ⊎ (at + 1 + 3 ≤ i) → get_or r i 0 ≡ psn_byte at psn i (get_or r i 0)
    outside i o =
        let far : (j : ℕ) → at + 1 ≤ j → j < at + 1 + 3 → eqb i j ≡ false = λ j p q. beyond (at + 1) 3 j i p q o in
        rw (far (at + 1) (omega arith) (omega arith), far (at + 2) (omega arith) (omega arith), far (at + 3) (omega arith) (omega arith))

psn_bytes : (p : PsnField) (psn : ℕ) (r : List ℕ) → length r ≡ 256 → psn_effect p psn r ≡ map_from (psn_byte (psn_place p) psn) 0 r
psn_bytes NextSend psn r w = psn_map 0x6c psn r (omega arith)
psn_bytes LastAcked psn r w = psn_map 0x7c psn r (omega arith)
psn_bytes Expected psn r w = psn_map 0x84 psn r (omega arith)

-- The whole effect and the bursts are one rule: of a record and a mailbox that are long enough, each byte of the effect is the
-- byte rule's.
pub whole_bytes : (q : Request) (mail r : List ℕ) → need_of q ≤ length mail → length r ≡ record_size (record_of q)
    → whole_effect q mail r ≡ map_from (byte_of q mail) 0 r
unfolding write_byte
whole_bytes (request.Command (command.Sw2Hw o)) mail r h w = owned_bytes o mail r h (w ∙ owned_size o)
whole_bytes (request.Command (command.Hw2Sw o)) mail r h w = replicate_map 0 r 64 (w ∙ owned_size o)
whole_bytes (request.Command (command.ResizeCq n)) mail r h w = resize_bytes mail r h w
whole_bytes (request.Command (command.QueryQp n)) mail r h w = sym (map_same 0 r)
whole_bytes (request.Command (command.ModifyQp e n)) mail r h w = edge_bytes mail r w e h
whole_bytes (request.Engine (engine.ReadState n)) mail r h w = sym (map_same 0 r)
whole_bytes (request.Engine (engine.ReadNext n)) mail r h w = sym (map_same 0 r)
whole_bytes (request.Engine (engine.ReadAll n)) mail r h w = sym (map_same 0 r)
whole_bytes (request.Engine (engine.ReadJoined n c e)) mail r h w = sym (map_same 0 r)
whole_bytes (request.Engine (engine.Write p s n psn)) mail r h w =
    state_over s (psn_byte (psn_place p) psn) (psn_effect p psn r) r (omega arith) (psn_bytes p psn r w)
