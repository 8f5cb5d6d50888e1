mod TierLaws
