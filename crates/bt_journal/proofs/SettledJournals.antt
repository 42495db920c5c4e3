-- A settled journal, and the file after one more frame.
use Rattle.std.proofs.Common.{◌≡◌, Bool, IsTrue, inl, inr, ℕ, ◌+◌, ◌^◌, ◌<◌, ◌≤◌, List, [], ◌∷◌, ◌++◌, length, drop, Some, refl, sym, ◌∙◌, ap, subst, arith}
use Rattle.std.specs.Prelude.{replicate}
use Rattle.std.proofs.lemmas.List.{append-nil, drop_at, drop_all}
use Rattle.bt_journal.specs.Disks.{LeavesOnly, Only, Follows, Torn, Holds, Swapped}
use Rattle.bt_journal.specs.Frames.{frame_size, frame_of, next_seed, seed_after, extent, Begins, IsFramed}
use Rattle.bt_journal.specs.Heads.{head_seed, head_size, head_bytes, head_frame, head_at, body_of, IsAlike}
use Rattle.bt_journal.specs.Files.{recovered, Opens, IsBeforeOrAfter, IsSwapped}
use Rattle.bt_journal.specs.Journals.{IsSettled}
use Rattle.bt_journal.specs.declared.head.Head.{Head}
use Rattle.bt_journal.specs.declared.journal.Journal.{Journal}
use Rattle.bt_journal.proofs.FrontFrames.{payload_at-front, front-frame_of, length-frame_of}
use Rattle.bt_journal.proofs.FrameLists.{begins-push, extent-append}
use Rattle.bt_journal.proofs.HeadFrames.{Fits, head_at-frame}
use Rattle.bt_journal.proofs.offered.Moments.{leaves, started}
use Rattle.bt_journal.proofs.OpenFiles.{frames, opens, opens_empty}
use Rattle.bt_journal.proofs.TornFiles.{seed_after-push, end_within, torn_frame, written_head, written_frame}
use Rattle.bt_journal.proofs.Zeros.{none_of_zeros, none_after_zeros}

extent-push : (payloads : List (List ℕ)) (payload : List ℕ) → extent (payloads ++ payload ∷ []) ≡ extent payloads + frame_size payload
unfolding extent
extent-push payloads payload = omega (arith, extent-append payloads (payload ∷ []))

-- a file of a head, frames and zeros can be opened
pub opens_framed : (head : Head) (salt : ℕ) (file : List ℕ) (payloads : List (List ℕ)) → head_at file ≡ Some (record { format = head.format; engine = head.engine; salt = salt })
    → IsFramed salt payloads (body_of file) → Opens head payloads file
opens_framed head salt file payloads is framed =
    let seed = seed_after salt payloads in
    opens head salt file is payloads (replicate framed.0 0) framed.1 (none_of_zeros seed framed.0) (none_after_zeros seed framed.0)

module _ {D : Type 0} (contents : D → List ℕ) (outcome : D → List ℕ → Type 0) (is_healthy : D → Bool) where
  -- a file of a head, frames and zeros that is all on the disk
  pub settled : (journal : Journal D) (payloads : List (List ℕ)) → head_at (contents journal.disk) ≡ Some journal.head → IsFramed journal.head.salt payloads (body_of (contents journal.disk))
      → journal.end ≡ head_size + extent payloads → journal.seed ≡ seed_after journal.head.salt payloads → Only (contents journal.disk) (outcome journal.disk)
      → IsTrue (is_healthy journal.disk) → IsSettled contents outcome is_healthy journal × (recovered (contents journal.disk) ≡ payloads)
  settled journal payloads is framed end seed only healthy =
      let file = contents journal.disk in
      let salt = journal.head.salt in
      let same = frames journal.head salt file is payloads (replicate framed.0 0) framed.1 (none_of_zeros (seed_after salt payloads) framed.0) in (
        record {
          head = is;
          framed = subst (λ (ps : List (List ℕ)). IsFramed salt ps (body_of file)) (sym same) framed;
          end = end ∙ ap (λ (ps : List (List ℕ)). head_size + extent ps) (sym same);
          seed = seed ∙ ap (seed_after salt) (sym same);
          durable = only;
          healthy = healthy;
        },
        same,
      )

  module _ (journal : Journal D) (s : IsSettled contents outcome is_healthy journal) where
    abbrev file : List ℕ
    file = contents journal.disk

    abbrev payloads : List (List ℕ)
    payloads = recovered file

    pub settled_opens : Opens journal.head payloads file
    settled_opens = opens_framed journal.head journal.head.salt file payloads s.head s.framed

    pub settled_within : journal.end ≤ length file
    settled_within = subst (λ (n : ℕ). n ≤ length file) (sym s.end) (end_within journal.head payloads file s.head s.framed)

    -- before the first call of the disk
    pub before_call : (moment : D → ℕ) (outcome_since : D → ℕ → List ℕ → Type 0) → ((f : D) (c : List ℕ) → outcome_since f (moment f) c → outcome f c) → (P : List ℕ → Type 0) → P file
        → LeavesOnly moment outcome_since journal.disk journal.disk P
    before_call moment outcome_since only_now P here =
        started moment outcome_since journal.disk P (λ c left. subst P (sym (s.durable c (only_now journal.disk c left))) here)

    -- a write that a crash interrupts leaves the payloads, with the new one or without it
    pub write_leaves : (payload : List ℕ) (n : ℕ) (new : List ℕ → Type 0) → Follows (Torn journal.end n) (outcome journal.disk) new
        → (c : List ℕ) → new c → IsBeforeOrAfter journal.head payloads payload c
    write_leaves payload n new follows =
        leaves (Torn journal.end n) file (outcome journal.disk) new (IsBeforeOrAfter journal.head payloads payload) s.durable follows
        (λ c torn. torn_frame journal.head payloads file s.head s.framed payload c n (subst (λ (at : ℕ). Torn at n file c) s.end torn))

    -- a write that is done leaves them with the new one
    pub written : (next : Journal D) (payload bytes : List ℕ) (more : ℕ) → journal.seed < 2 ^ 64 → frame_size payload < 2 ^ 64
        → bytes ≡ frame_of journal.seed payload ++ replicate more 0 → Holds file journal.end bytes (contents next.disk) → next.head ≡ journal.head
        → next.end ≡ journal.end + frame_size payload → next.seed ≡ next_seed journal.seed payload → Only (contents next.disk) (outcome next.disk)
        → IsTrue (is_healthy next.disk) → IsSettled contents outcome is_healthy next × (recovered (contents next.disk) ≡ payloads ++ payload ∷ [])
    written next payload bytes more seed_lt size_lt is holds same_head end seed only healthy =
        let c = contents next.disk in
        let lt = subst (λ (n : ℕ). n < 2 ^ 64) s.seed seed_lt in
        let at_end = subst (λ (at : ℕ). Holds file at bytes c) s.end holds in
        let bytes_are = is ∙ ap (λ (n : ℕ). frame_of n payload ++ replicate more 0) s.seed in
        let there = subst (λ (l : List ℕ). Holds file (head_size + extent payloads) l c) bytes_are at_end in
        let head = written_head journal.head payloads file s.head s.framed payload c more lt size_lt there in
        let framed = written_frame journal.head payloads file s.head s.framed payload c more lt size_lt there in
        settled next (payloads ++ payload ∷ [])
        (head ∙ ap (λ (h : Head). Some h) (sym same_head))
        (subst (λ (h : Head). IsFramed h.salt (payloads ++ payload ∷ []) (body_of c)) (sym same_head) framed)
        (omega (arith, end, s.end, extent-push payloads payload))
        (seed ∙ ap (λ (n : ℕ). next_seed n payload) s.seed ∙ sym (seed_after-push journal.head.salt payloads payload) ∙ ap (λ (h : Head). seed_after h.salt (payloads ++ payload ∷ [])) (sym same_head))
        only healthy

-- a new file of a head alone
module _ (head : Head) (fits : Fits head) where
  size : length (head_frame head) ≡ head_size
  size = length-frame_of head_seed (head_bytes head)

  pub new_head : head_at (head_frame head) ≡ Some head
  new_head = ap head_at (sym (append-nil (head_frame head))) ∙ head_at-frame head [] fits

  pub new_framed : IsFramed head.salt [] (body_of (head_frame head))
  unfolding Begins
  new_framed = (0, drop_all head_size (head_frame head) (omega (arith, size)))

  -- a new file of a head and one frame
  module _ (payload : List ℕ) (size_lt : frame_size payload < 2 ^ 64) where
    abbrev frame : List ℕ
    frame = frame_of head.salt payload

    pub swapped_head : head_at (head_frame head ++ frame) ≡ Some head
    swapped_head = head_at-frame head frame fits

    pub swapped_framed : IsFramed head.salt (payload ∷ []) (body_of (head_frame head ++ frame))
    unfolding Begins seed_after
    swapped_framed =
        let body : body_of (head_frame head ++ frame) ≡ frame = drop_at (head_frame head) frame head_size size in
        let passes = payload_at-front head.salt payload frame (front-frame_of head.salt payload fits.salt size_lt) in
        let begins : Begins head.salt (payload ∷ []) frame (drop (frame_size payload) frame) = begins-push head.salt [] payload frame frame refl passes in
        let none : drop (frame_size payload) frame ≡ [] = drop_all (frame_size payload) frame (omega (arith, length-frame_of head.salt payload)) in
        (0, subst (λ (l : List ℕ). Begins head.salt (payload ∷ []) l []) (sym body) (subst (λ (l : List ℕ). Begins head.salt (payload ∷ []) frame l) none begins))

pub opens_alike : (head next : Head) → IsAlike head next → (payloads : List (List ℕ)) (file : List ℕ) → head_at file ≡ Some next → IsFramed next.salt payloads (body_of file)
    → Opens head payloads file
opens_alike head next alike payloads file is framed =
    opens_framed head next.salt file payloads
    (is ∙ ap (λ (n : ℕ). Some (record { format = n; engine = next.engine; salt = next.salt })) alike.format
    ∙ ap (λ (n : ℕ). Some (record { format = head.format; engine = n; salt = next.salt })) alike.engine)
    framed

-- a swap that a crash interrupts leaves the payloads of before, or the new one alone
pub swap_leaves : (head : Head) (were : List (List ℕ)) (payload old : List ℕ) → Opens head were old → (bytes : List ℕ) (next : Head) → IsAlike head next → Fits next → frame_size payload < 2 ^ 64
    → bytes ≡ head_frame next ++ frame_of next.salt payload → (c : List ℕ) → Swapped bytes old c → IsSwapped head were payload c
swap_leaves head were payload old was bytes next alike fits lt is c (inl same) = inl (subst (Opens head were) (sym same) was)
swap_leaves head were payload old was bytes next alike fits lt is c (inr new) =
    let file = head_frame next ++ frame_of next.salt payload in
    inr (subst (Opens head (payload ∷ [])) (sym (new ∙ is)) (opens_alike head next alike (payload ∷ []) file (swapped_head next fits payload lt) (swapped_framed next fits payload lt)))

-- a swap that is done leaves the new one
pub swapped : {D : Type 0} (contents : D → List ℕ) (outcome : D → List ℕ → Type 0) (is_healthy : D → Bool) (journal : Journal D) (payload : List ℕ) → Fits journal.head → frame_size payload < 2 ^ 64
    → contents journal.disk ≡ head_frame journal.head ++ frame_of journal.head.salt payload → journal.end ≡ head_size + frame_size payload → journal.seed ≡ next_seed journal.head.salt payload
    → Only (contents journal.disk) (outcome journal.disk) → IsTrue (is_healthy journal.disk) → IsSettled contents outcome is_healthy journal × (recovered (contents journal.disk) ≡ payload ∷ [])
unfolding extent seed_after
swapped contents outcome is_healthy journal payload fits lt is end seed only healthy =
    settled contents outcome is_healthy journal (payload ∷ [])
    (ap head_at is ∙ swapped_head journal.head fits payload lt)
    (subst (λ (f : List ℕ). IsFramed journal.head.salt (payload ∷ []) (body_of f)) (sym is) (swapped_framed journal.head fits payload lt))
    (omega (arith, end)) seed only healthy

-- a head that is written to an empty file, if a crash interrupts it or not
pub new_leaves : (head : Head) → Fits head → (old bytes : List ℕ) → old ≡ [] → bytes ≡ head_frame head → (c : List ℕ) → Swapped bytes old c → Opens head [] c
new_leaves head fits old bytes empty is c (inl same) = subst (Opens head []) (sym (same ∙ empty)) (opens_empty head)
new_leaves head fits old bytes empty is c (inr new) =
    subst (Opens head []) (sym (new ∙ is)) (opens_framed head head.salt (head_frame head) [] (new_head head fits) (new_framed head fits))

pub new_settled : {D : Type 0} (contents : D → List ℕ) (outcome : D → List ℕ → Type 0) (is_healthy : D → Bool) (journal : Journal D) → Fits journal.head
    → contents journal.disk ≡ head_frame journal.head → journal.end ≡ head_size → journal.seed ≡ journal.head.salt
    → Only (contents journal.disk) (outcome journal.disk) → IsTrue (is_healthy journal.disk) → IsSettled contents outcome is_healthy journal × (recovered (contents journal.disk) ≡ [])
unfolding extent seed_after
new_settled contents outcome is_healthy journal fits is end seed only healthy =
    settled contents outcome is_healthy journal []
    (ap head_at is ∙ new_head journal.head fits)
    (subst (λ (f : List ℕ). IsFramed journal.head.salt [] (body_of f)) (sym is) (new_framed journal.head fits))
    (omega (arith, end)) seed only healthy

-- what opens with a head opens with one that is alike
pub opens_too : (head found : Head) → IsAlike head found → (payloads : List (List ℕ)) (file : List ℕ) → Opens found payloads file → Opens head payloads file
opens_too head found alike ps c opened = record {
  accepted = elim opened.accepted [
    | inl empty ↦ inl empty
    | inr was ↦ inr (
      was.0,
      was.1
          ∙ ap (λ (n : ℕ). Some (record { format = n; engine = found.engine; salt = was.0 })) alike.format
          ∙ ap (λ (n : ℕ). Some (record { format = head.format; engine = n; salt = was.0 })) alike.engine,
    )
  ];
  frames = opened.frames;
  sound = opened.sound;
}
