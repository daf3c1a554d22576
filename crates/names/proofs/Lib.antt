mod TextKeys
