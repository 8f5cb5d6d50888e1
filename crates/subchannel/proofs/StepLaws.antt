-- No call but a shutdown makes a subchannel SHUTDOWN, or another one live.
use Rattle.std.proofs.Common.{◌≡◌, ℕ, Bool, true, false, refl, sym, ◌∙◌, not, ◌&&◌, if◌then◌else◌, is_some, Some, None}
use Rattle.grpc_base.specs.declared.event.Conn.{Conn}
use Rattle.grpc_base.specs.declared.event.Conn.TheVariants as conn
use Rattle.subchannel.specs.Records.{SubRecord, is_live, is_shut, is_connecting, is_ready, is_failure, is_idle, is_dialable, is_dialing, awaits_preface, is_due, wished, dialed, linked_up, failed, prefaced, lost, clocked, backing_off, next_dials, again_after, until_after}
use Rattle.subchannel.proofs.NumberLaws.{only_live-due}
use Rattle.subchannel.proofs.KeepLaws.{KeepsLive}

-- a choice between two records that are as live as a third
live-if : (b : Bool) (s x y : SubRecord) → (b ≡ true → is_live x ≡ is_live s) → is_live y ≡ is_live s → is_live (if b then x else y) ≡ is_live s
live-if true s x y p q = p refl
live-if false s x y p q = q

idle-live : (c : Conn) → is_idle c ≡ true → true ≡ not (is_shut c)
idle-live conn.Idle e = refl
idle-live conn.Connecting e = refl
idle-live conn.Ready e = refl
idle-live conn.Failure e = refl
idle-live conn.Shutdown e = (cc)

connecting-live : (c : Conn) → is_connecting c ≡ true → true ≡ not (is_shut c)
connecting-live conn.Idle e = refl
connecting-live conn.Connecting e = refl
connecting-live conn.Ready e = refl
connecting-live conn.Failure e = refl
connecting-live conn.Shutdown e = (cc)

ready-live : (c : Conn) → is_ready c ≡ true → true ≡ not (is_shut c)
ready-live conn.Idle e = refl
ready-live conn.Connecting e = refl
ready-live conn.Ready e = refl
ready-live conn.Failure e = refl
ready-live conn.Shutdown e = (cc)

and_left : (a b : Bool) → (a && b) ≡ true → a ≡ true
and_left true b e = refl
and_left false b e = (cc)

dialing-live : (s : SubRecord) → is_dialing s ≡ true → true ≡ is_live s
dialing-live s e = connecting-live s.state (and_left (is_connecting s.state) (is_some s.until) (and_left (is_connecting s.state && is_some s.until) (not s.linked) e))

preface-live : (s : SubRecord) → awaits_preface s ≡ true → true ≡ is_live s
preface-live s e = connecting-live s.state (and_left (is_connecting s.state) (is_some s.until) (and_left (is_connecting s.state && is_some s.until) s.linked e))

pub keeps_live-wished : KeepsLive wished
keeps_live-wished s = live-if (is_idle s.state) s (record s { state = conn.Connecting }) s (λ e. idle-live s.state e) refl

pub keeps_live-dialed : (moment word : ℕ) → KeepsLive (dialed moment word)
keeps_live-dialed moment word s =
    live-if (is_dialable s) s (record s { dials = next_dials s; again = Some (again_after s moment word); until = Some (until_after s moment word) }) s (λ e. refl) refl

pub keeps_live-linked_up : KeepsLive linked_up
keeps_live-linked_up s = live-if (is_dialing s) s (record s { linked = true }) s (λ e. refl) refl

pub keeps_live-failed : KeepsLive failed
keeps_live-failed s = live-if (is_dialing s) s (backing_off s) s (dialing-live s) refl

pub keeps_live-prefaced : KeepsLive prefaced
keeps_live-prefaced s =
    live-if (awaits_preface s) s (record s { state = conn.Ready; dials = 0; again = None; until = None }) s (preface-live s) refl

pub keeps_live-lost : KeepsLive lost
keeps_live-lost s =
    live-if (awaits_preface s) s (backing_off s) (if is_ready s.state then record s { state = conn.Idle; linked = false } else s) (preface-live s) (live-if (is_ready s.state) s (record s { state = conn.Idle; linked = false }) s (ready-live s.state) refl)

due-live : (moment : ℕ) (s : SubRecord) (b : Bool) → is_live s ≡ b → is_due moment s ≡ true → true ≡ is_live s
due-live moment s true live e = sym live
due-live moment s false shut e = let not_due : is_due moment s ≡ false = only_live-due moment s shut in (cc)

either-live : (b : Bool) (x y : SubRecord) → is_live x ≡ true → is_live y ≡ true → is_live (if b then x else y) ≡ true
either-live true x y p q = p
either-live false x y p q = q

pub keeps_live-clocked : (moment : ℕ) → KeepsLive (clocked moment)
keeps_live-clocked moment s =
    live-if (is_due moment s) s (if is_failure s.state then record s { state = conn.Idle; again = None } else backing_off s) s (λ e. either-live (is_failure s.state) (record s { state = conn.Idle; again = None }) (backing_off s) refl refl ∙ due-live moment s (is_live s) refl e) refl
