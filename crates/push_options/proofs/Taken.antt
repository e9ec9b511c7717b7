-- Options taken one after another.
use Rattle.std.proofs.Common.{◌≡◌, ℕ, Bool, List, [], ◌∷◌, Ok, Err, Result, ap, sym, ◌∙◌}
use Rattle.std.specs.Prelude.{unwrap_or, IfOk, IfErr, OnOk}
use Rattle.vpn_base.specs.declared.errors.Or.{Or}
use Rattle.vpn_base.specs.declared.errors.Or.TheVariants.{Memory, Why}
use Rattle.vpn_base.specs.declared.names.Policy.{Policy}
use Rattle.vpn_base.specs.Answers.{IfWhy}
use Rattle.push_options.specs.declared.collector.PushFault.{PushFault}
use Rattle.push_options.specs.Received.{received, words_in}
use Rattle.push_options.specs.Collecting.{Collected, and_then, is_continued, mark_of, with_all, with_one}

-- the first of them, and those behind it
pub all_first : (ours : Policy) (c next : Collected) (option : List ℕ) (options all : List (List ℕ)) → all ≡ option ∷ options
    → with_one ours c option ≡ Ok next → with_all ours c all ≡ with_all ours next options
unfolding with_all
all_first ours c next option options all is here =
    ap (with_all ours c) is ∙ ap (λ (r : Result Collected PushFault). and_then r (λ after. with_all ours after options)) here

pub mark_first : (ours : Policy) (more mark : Bool) (option : List ℕ) (options all : List (List ℕ)) → all ≡ option ∷ options
    → mark ≡ unwrap_or (mark_of (received ours (words_in option))) more → is_continued ours more all ≡ is_continued ours mark options
unfolding is_continued
mark_first ours more mark option options all is marked =
    ap (is_continued ours more) is ∙ ap (λ (m : Bool). is_continued ours m options) (sym marked)

-- where it is refused
pub refused_first : (ours : Policy) (c : Collected) (option : List ℕ) (options all : List (List ℕ)) (whole : Result Collected PushFault) (e : Or PushFault)
    → whole ≡ with_all ours c all → all ≡ option ∷ options
    → IfWhy e (λ why. with_one ours c option ≡ Err why) → IfWhy e (λ why. whole ≡ Err why)
unfolding with_all
refused_first ours c option options all whole Memory same is refused = tt
refused_first ours c option options all whole (Why fault) same is refused =
    same ∙ ap (with_all ours c) is ∙ ap (λ (r : Result Collected PushFault). and_then r (λ after. with_all ours after options)) refused

-- the last one
pub last_mark_is : (ours : Policy) (more : Bool) (option : List ℕ) (all : List (List ℕ)) (whole : Bool) (result : Result Bool (Or PushFault))
    → whole ≡ is_continued ours more all → all ≡ option ∷ [] → IfOk result (λ r. r ≡ unwrap_or (mark_of (received ours (words_in option))) more)
    → IfOk result (λ r. r ≡ whole)
unfolding is_continued
last_mark_is ours more option all whole (Ok r) same is marked = marked ∙ sym (same ∙ ap (is_continued ours more) is)
last_mark_is ours more option all whole (Err e) same is marked = tt

pub last_taken : (ours : Policy) (c after : Collected) (option : List ℕ) (all : List (List ℕ)) (whole : Result Collected PushFault)
    (result : Result Bool (Or PushFault)) → whole ≡ with_all ours c all → all ≡ option ∷ [] → OnOk result (with_one ours c option ≡ Ok after)
    → OnOk result (whole ≡ Ok after)
unfolding with_all
last_taken ours c after option all whole (Ok r) same is taken =
    same ∙ ap (with_all ours c) is ∙ ap (λ (r : Result Collected PushFault). and_then r (λ next. Ok next)) taken
last_taken ours c after option all whole (Err e) same is taken = tt

pub last_refused : (ours : Policy) (c : Collected) (option : List ℕ) (all : List (List ℕ)) (whole : Result Collected PushFault)
    (result : Result Bool (Or PushFault)) → whole ≡ with_all ours c all → all ≡ option ∷ []
    → IfErr result (λ e. IfWhy e (λ why. with_one ours c option ≡ Err why)) → IfErr result (λ e. IfWhy e (λ why. whole ≡ Err why))
last_refused ours c option all whole (Ok r) same is refused = tt
last_refused ours c option all whole (Err e) same is refused = refused_first ours c option [] all whole e same is refused
