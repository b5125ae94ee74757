-- First parts of files and texts that grow piece by piece.
use Rattle.std.proofs.Common.{◌≡◌, ℕ, ◌+◌, ◌-◌, ◌≤◌, List, ◌++◌, Option, Some, None, length, take, drop, sym, ap, ◌∙◌, append_assoc}
use Rattle.std.proofs.Common.{length-append, length-drop}
use Rattle.std.proofs.Math.Seq.{take-add, take-length}
use Rattle.std.proofs.lemmas.List.{length-take-le}
use Rattle.ec_outside.specs.Shelf.{ReadsFile}
use Rattle.ec_outside.specs.Whole.{IsFront, IsWhole}

-- all that is left of a text is what is left of it
take_rest : (text : List ℕ) (at : ℕ) → take (length text - at) (drop at text) ≡ drop at text
take_rest text at = rw (sym (length-drop at text)) (take-length (drop at text))

-- what is taken of the rest of a text follows what was taken of it
pub taken_more : (start before after text : List ℕ) (at n : ℕ) → before ≡ start ++ take at text →
    after ≡ before ++ take n (take (length text - at) (drop at text)) → after ≡ start ++ take (at + n) text
taken_more start before after text at n e f =
    f ∙ ap (λ rest. before ++ take n rest) (take_rest text at) ∙ ap (λ xs. xs ++ take n (drop at text)) e ∙ append_assoc start _ _
    ∙ ap (λ xs. start ++ xs) (sym (take-add at n text))

-- what a read brings makes a longer first part of the file
pub front_more : (content : Option (List ℕ)) (old new buffer : List ℕ) (from n : ℕ) → from ≡ length old → IsFront content old →
    ReadsFile content from buffer n → n ≤ length buffer → new ≡ old ++ take n buffer → IsFront content new
front_more None old new buffer from n at front read h e = absurd read
front_more (Some file) old new buffer from n at front read h e =
    let next : take n buffer ≡ take n (drop (length old) file) = read.bytes ∙ ap (λ k. take n (drop k file)) at in
    let grown : new ≡ take (length old + n) file =
    e ∙ ap (λ xs. xs ++ take n buffer) front ∙ ap (λ xs. take (length old) file ++ xs) next ∙ sym (take-add (length old) n file) in
    let long : length new ≡ length old + n =
    ap length e ∙ length-append old (take n buffer) ∙ ap (λ k. length old + k) (length-take-le n buffer h) in
    grown ∙ ap (λ k. take k file) (sym long)

-- a first part of a file that is there is the whole of it up to its own length
pub whole_at_limit : (content : Option (List ℕ)) (bytes buffer : List ℕ) (from n limit : ℕ) → IsFront content bytes →
    ReadsFile content from buffer n → length bytes ≡ limit → IsWhole content limit bytes
whole_at_limit None bytes buffer from n limit front read e = absurd read
whole_at_limit (Some file) bytes buffer from n limit front read e = front ∙ ap (λ k. take k file) e
