-- Members after others.
use Rattle.std.proofs.Common.{◌≡◌, ℕ, List, [], ◌∷◌, ◌++◌, Option, refl, sym, ap, ◌∙◌, append_assoc}
use Rattle.std.specs.Prelude.{codes}
use Rattle.std.proofs.lemmas.Grind.{flat_map-append}
use Rattle.json.specs.Json.{number}
use Rattle.can_json_texts.specs.Members.{Member, keyed, member_text, further_member, further_members, object_text, text_members}
use Rattle.can_frames.specs.Frames.{Frame}
use Rattle.can_decode.specs.DecodedLines.{Target}
use Rattle.can_json_lines.specs.Lines.{time_of, interface_of, rest_of, frame_members, stated_members, rest_members, known_members}
use Rattle.can_json_lines.proofs.Pushing.{pushed_then}

further-append : (first second : List Member) → further_members (first ++ second) ≡ further_members first ++ further_members second
further-append first second = flat_map-append further_member first second

-- members, and more after them
pub both_further : (old mid new : List ℕ) (first second : List Member) → new ≡ mid ++ further_members second
    → mid ≡ old ++ further_members first → new ≡ old ++ further_members (first ++ second)
both_further old mid new first second last begun =
    pushed_then old mid new (further_members first) (further_members second) last begun
    ∙ ap (λ (text : List ℕ). old ++ text) (sym (further-append first second))

-- an object that a member begins
object_begun : (one : Member) (members : List Member) → 123 ∷ (member_text one ++ (further_members members ++ codes "}"))
    ≡ object_text (one ∷ members)
object_begun one members = ap (λ (text : List ℕ). 123 ∷ text) (sym (append_assoc (member_text one) (further_members members)
    (codes "}")))

pub object_pushed : (old first second new : List ℕ) (one : Member) (members : List Member) → new ≡ second ++ 125 ∷ []
    → second ≡ first ++ further_members members → first ≡ old ++ (123 ∷ member_text one) → new ≡ old ++ object_text (one ∷ members)
object_pushed old first second new one members last middle begun =
    pushed_then old first new (123 ∷ member_text one) (further_members members ++ 125 ∷ [])
    (pushed_then first second new (further_members members) (125 ∷ []) last middle) begun
    ∙ ap (λ (text : List ℕ). old ++ text) (object_begun one members)

-- ---- lines

-- a line with a frame, by the words of the line
pub known_pushed : (old first second new body time interface rest : List ℕ) (frame : Frame) (target : Option Target)
    → new ≡ second ++ 125 ∷ []
    → second ≡ first ++ (further_members (frame_members frame) ++ (further_members (stated_members frame.kind frame target)
    ++ further_members (rest_members rest)))
    → first ≡ old ++ (keyed (record { mark = 123; name = codes "time" }) (number time)
    ++ further_members (text_members (codes "interface") interface))
    → time ≡ time_of body → interface ≡ interface_of body → rest ≡ rest_of body
    → new ≡ old ++ object_text (known_members body frame target)
unfolding known_members
known_pushed old first second new body time interface rest frame target last middle begun is_time is_interface is_rest =
    let came = text_members (codes "interface") interface in
    let stated = stated_members frame.kind frame target in
    let after = rest_members rest in
    let members = came ++ (frame_members frame ++ (stated ++ after)) in
    let one : Member = (codes "time", number time) in
    let given : further_members (frame_members frame ++ (stated ++ after))
    ≡ further_members (frame_members frame) ++ (further_members stated ++ further_members after) =
    further-append (frame_members frame) (stated ++ after)
    ∙ ap (λ (text : List ℕ). further_members (frame_members frame) ++ text) (further-append stated after) in
    let all : second ≡ old ++ ((123 ∷ member_text one) ++ further_members members) =
    pushed_then old first second ((123 ∷ member_text one) ++ further_members came)
    (further_members (frame_members frame) ++ (further_members stated ++ further_members after)) middle begun
    ∙ ap (λ (text : List ℕ). old ++ text)
    (append_assoc (123 ∷ member_text one) (further_members came)
    (further_members (frame_members frame) ++ (further_members stated ++ further_members after))
    ∙ ap (λ (text : List ℕ). (123 ∷ member_text one) ++ text)
    (ap (λ (text : List ℕ). further_members came ++ text) (sym given) ∙ sym (further-append came (frame_members frame ++ (stated
    ++ after)))))
    in
    last ∙ ap (λ (text : List ℕ). text ++ 125 ∷ []) all
    ∙ append_assoc old ((123 ∷ member_text one) ++ further_members members) (125 ∷ [])
    ∙ ap (λ (text : List ℕ). old ++ text) (append_assoc (123 ∷ member_text one) (further_members members) (125 ∷ [])
    ∙ object_begun one members)
    ∙ ap (λ (words : List ℕ × (List ℕ × List ℕ)). old ++ object_text ((codes "time", number words.0)
    ∷ (text_members (codes "interface") words.1.0 ++ (frame_members frame ++ (stated ++ rest_members words.1.1)))))
    (ap₃ is_time is_interface is_rest)
  where
    ap₃ : {a b c d e f : List ℕ} → a ≡ d → b ≡ e → c ≡ f → ◌≡◌ {A = List ℕ × (List ℕ × List ℕ)} (a, (b, c)) (d, (e, f))
    ap₃ p q r = rw (p, q, r) refl
