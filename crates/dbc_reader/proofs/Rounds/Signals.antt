-- What one signal more does, in the loop over the signals of a message.
use Rattle.std.proofs.Common.{◌≡◌, ℕ, ◌<◌, true, false, List, [], ◌∷◌, ◌++◌, Result, Ok, refl}
use Rattle.std.specs.Prelude.{codes, nat_lt}
use Rattle.dbc_records.specs.Records.{Signal}
use Rattle.dbc_tokens.specs.declared.fault.Cause.TheVariants as causes
use Rattle.dbc_tokens.specs.declared.fault.ReadFault.{ReadFault}
use Rattle.dbc_reader.specs.declared.stopped.Stopped.{Stopped}
use Rattle.dbc_tokens.specs.Tokens.{Cut}
use Rattle.dbc_reader.specs.Classes.{has_word}
use Rattle.dbc_reader.specs.inner.Readers.{Reader, ◌>>=◌, value, starts, size, Fails}
use Rattle.dbc_reader.specs.inner.Messages.{begun, fresh, begin_signal_at, signal_name_at, tag_at, sign_at, bit_field_at}
use Rattle.dbc_reader.specs.inner.Messages.{signal_at}
use Rattle.dbc_reader.specs.inner.Messages.{signals_from}
use Rattle.dbc_reader.proofs.Rounds.{Shrinks, Keeps, one_shrinks, value_keeps, keeps, bind_shrinks, bind_keeps, choose_shrinks}
use Rattle.dbc_reader.proofs.Rounds.{choose_keeps, goes_on, fails, ends, repeated_keeps}
use Rattle.dbc_reader.proofs.Rounds.Lists.{fails_bind, mark_shrinks, text_shrinks, whole_shrinks, order_shrinks, tag_token_shrinks}
use Rattle.dbc_reader.proofs.Rounds.Lists.{pair_shrinks, receivers_keep_all}

begin_shrinks : (count : ℕ) → Shrinks (begin_signal_at count)
unfolding begin_signal_at
begin_shrinks count = one_shrinks (λ t. begun (has_word (codes "SG_") t) (nat_lt count 999) causes.SignalsFull)

signal_name_shrinks : (names : List (List ℕ)) → Shrinks (signal_name_at names)
unfolding signal_name_at
signal_name_shrinks names = one_shrinks (λ t. fresh names t.bytes)

tag_keeps : Keeps tag_at
unfolding tag_at
tag_keeps = choose_keeps _ (value_keeps _) (keeps tag_token_shrinks)

sign_shrinks : Shrinks sign_at
unfolding sign_at
sign_shrinks = choose_shrinks _ (bind_shrinks (mark_shrinks 45) λ _. value_keeps _) (bind_shrinks (mark_shrinks 43) λ _.
    value_keeps _)

bit_field_shrinks : Shrinks bit_field_at
unfolding bit_field_at
bit_field_shrinks =
    bind_shrinks (whole_shrinks _ _) λ start. bind_keeps (keeps (mark_shrinks 124)) λ _. bind_keeps (keeps (whole_shrinks _ _))
    λ long.
    bind_keeps (keeps (mark_shrinks 64)) λ _. bind_keeps (keeps order_shrinks) λ order.
    bind_keeps (keeps sign_shrinks) λ value_type. value_keeps _

pub signal_shrinks : (signals : List Signal) → Shrinks (signal_at signals)
unfolding signal_at
signal_shrinks signals =
    bind_shrinks (begin_shrinks _) λ _. bind_keeps (keeps (signal_name_shrinks _)) λ name. bind_keeps tag_keeps λ tag. bind_keeps
    (keeps (mark_shrinks 58)) λ _.
    bind_keeps (keeps bit_field_shrinks) λ bit_field. bind_keeps (keeps (pair_shrinks 40 44 41)) λ scale. bind_keeps
    (keeps (pair_shrinks 91 124 93)) λ limits.
    bind_keeps (keeps text_shrinks) λ unit. bind_keeps receivers_keep_all λ receivers. value_keeps _

signals_round : List Signal → Reader (List Signal)
signals_round signals = signal_at signals >>= λ signal. value (signals ++ signal ∷ [])

signals_shrink : (signals : List Signal) → Shrinks (signals_round signals)
unfolding signals_round
signals_shrink signals = bind_shrinks (signal_shrinks signals) λ signal. value_keeps _

pub signals_on : (signals before new : List Signal) (signal : Signal) (cut rest : Cut) (total : Result (List Signal
    × Cut) ReadFault) → starts (has_word (codes "SG_")) cut ≡ true → signal_at before cut ≡ Ok (signal, rest) → before ≡ signals
    → new ≡ signals ++ signal ∷ [] → signals_from signals cut ≡ total → signals_from new rest ≡ total
unfolding signals_from signals_round
signals_on signals before new signal cut rest total t h same is so_far = goes_on (has_word (codes "SG_")) signals_round
    signals_shrink signals new cut rest total t (let k : signal_at signals cut ≡ Ok (signal, rest) = rw (← same) h in
    rw (k, is) refl) so_far

pub signals_fail : (e : Stopped) (signals before : List Signal) (cut : Cut) (total : Result (List Signal × Cut) ReadFault)
    → starts (has_word (codes "SG_")) cut ≡ true → Fails e (signal_at before cut) → before ≡ signals → signals_from signals cut
    ≡ total → Fails e total
unfolding signals_from signals_round
signals_fail e signals before cut total t h same so_far = fails (has_word (codes "SG_")) signals_round signals_shrink e signals cut
    total t (fails_bind e (signal_at signals cut) _ (rw (← same) h)) so_far

pub signals_end : (signals : List Signal) (cut : Cut) (total : Result (List Signal × Cut) ReadFault)
    → starts (has_word (codes "SG_")) cut ≡ false → signals_from signals cut ≡ total → total ≡ Ok (signals, cut)
unfolding signals_from signals_round
signals_end signals cut total t so_far = ends (has_word (codes "SG_")) signals_round signals_shrink signals cut total t so_far

pub signals_less : (before : List Signal) (signal : Signal) (cut rest : Cut) → signal_at before cut ≡ Ok (signal, rest)
    → size rest < size cut
signals_less before signal cut rest h = (signal_shrinks before).less cut (signal, rest) h

pub signals_keep : (signals : List Signal) → Keeps (signals_from signals)
unfolding signals_from signals_round
signals_keep signals = repeated_keeps (has_word (codes "SG_")) signals_round signals_shrink signals
